use Rattle.std.proofs.Common.{false, refl}
use Rattle.std.proofs.lemmas.Bool.{both_ways}
use Rattle.ttx_page.specs.Views.{page_of}
use Rattle.ttx_page.specs.declared.item.Item.TheVariants.{Row as TheRow, Links as TheLinks}
use Rattle.ttx_proof.specs.Seams.{IsWrongAs}
use Rattle.ttx_proof.proofs.FirstHangingOver.{only_row, only_links}
use Rattle.ttx_proof.proofs.seams.is_wrong_any.Goals as goal

pub returns-then-are_wrong_links : goal.returns-then-are_wrong_links
returns-then-are_wrong_links c = ((λ y. (TheLinks, c.are_wrong_links.ensures.0 c.if-are_wrong_links.true)), (λ w. refl))

pub returns-in-Some : goal.returns-in-Some
returns-in-Some c =
    let none : IsWrongAs (page_of c.args.page.now) c.args.slot.now TheLinks → ⊥ = λ v.
    both_ways _ c.if-are_wrong_links.false (c.are_wrong_links.ensures.1 v) in (
      (λ y. (TheRow c.in-Some.at.number, c.is_wrong_row.ensures.0 y)),
      (λ w. c.is_wrong_row.ensures.1
          (only_row (page_of c.args.page.now).id.mag c.args.slot.now (IsWrongAs (page_of c.args.page.now) c.args.slot.now) (λ item v. v.1) none
          c.in-Some.at.mag c.in-Some.at.number _ c.in-Some.ensures w)),
    )

pub returns-in-None : goal.returns-in-None
returns-in-None c =
    let none : IsWrongAs (page_of c.args.page.now) c.args.slot.now TheLinks → ⊥ = λ v.
    both_ways _ c.if-are_wrong_links.false (c.are_wrong_links.ensures.1 v) in (
      (λ y. absurd (both_ways false refl y)),
      (λ w. absurd (only_links (page_of c.args.page.now).id.mag c.args.slot.now
          (IsWrongAs (page_of c.args.page.now) c.args.slot.now) (λ item v. v.1) none c.in-None.ensures w)),
    )
