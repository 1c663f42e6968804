use Rattle.std.proofs.Common.{false, refl}
use Rattle.std.proofs.lemmas.Bool.{both_ways}
use Rattle.ttx_page.specs.Views.{page_of}
use Rattle.ttx_page.specs.declared.item.Item.TheVariants.{Row as TheRow, Links as TheLinks}
use Rattle.ttx_proof.specs.LastBlocks.{BringsAs}
use Rattle.ttx_proof.proofs.FirstHangingOver.{only_row, only_links}
use Rattle.ttx_proof.proofs.last_blocks.brings_any.Goals as goal

pub returns-then-brings_links : goal.returns-then-brings_links
returns-then-brings_links c = ((λ y. (TheLinks, c.brings_links.ensures.0 c.if-brings_links.true)), (λ w. refl))

pub returns-in-Some : goal.returns-in-Some
returns-in-Some c =
    let p = page_of c.args.page.now in
    let slot = c.args.slot.now in
    let none : BringsAs p slot TheLinks → ⊥ = λ v. both_ways _ c.if-brings_links.false (c.brings_links.ensures.1 v) in (
      (λ y. (TheRow c.in-Some.at.number, c.brings_row.ensures.0 y)),
      (λ w. c.brings_row.ensures.1 (only_row p.id.mag slot (BringsAs p slot) (λ item v. v.1) none c.in-Some.at.mag c.in-Some.at.number _ c.in-Some.ensures w)),
    )

pub returns-in-None : goal.returns-in-None
returns-in-None c =
    let p = page_of c.args.page.now in
    let slot = c.args.slot.now in
    let none : BringsAs p slot TheLinks → ⊥ = λ v. both_ways _ c.if-brings_links.false (c.brings_links.ensures.1 v) in (
      (λ y. absurd (both_ways false refl y)),
      (λ w. absurd (only_links p.id.mag slot (BringsAs p slot) (λ item v. v.1) none c.in-None.ensures w)),
    )
