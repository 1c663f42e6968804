use Rattle.std.proofs.Common.{◌≡◌, map, slice_get, subst, sym, ap, ◌∙◌, inl, inr, arith}
use Rattle.std.proofs.lemmas.Bool.{cases_lt}
use Rattle.std.proofs.lemmas.List.{length-map}
use Rattle.std.proofs.lemmas.Option.{slice_get_within}
use Rattle.ttx_cycle.specs.Cycles.{slots_of}
use Rattle.ttx_page.specs.Views.{page_of}
use Rattle.ttx_certify.proofs.PageByPage.{page_at, same_page}
use Rattle.ttx_proof.specs.LastBlocks.{IsAmid}
use Rattle.ttx_proof.proofs.last_blocks.first_amid.Goals as goal

pub loop-index-preserved : goal.loop-index-preserved
loop-index-preserved c = λ i q lt listed n a.
    let p = c.index-pages-index.result in
    let old = slots_of c.args.old.now in
    elim (cases_lt i c.loop-index.index) as (λ _. ⊥) [
      | inl before ↦ c.loop-index.invariant i q before listed n a
      | inr ge ↦
          let e : c.loop-index.index ≡ i = omega arith in
          let there = page_at c.args.pages.now c.loop-index.index p c.loop-index-test.true c.index-pages-index.is in
          let same = same_page (page_of p) q (ap (λ m. slice_get (map page_of c.args.pages.now) m) (sym e) ∙ there) listed in
          c.in_default.ensures n (subst (λ x. IsAmid old x n) (sym same) a)
    ]

pub returns : goal.returns
returns c = λ n p listed slot a.
    let size = length-map c.args.pages.now page_of in
    let inside = slice_get_within (map page_of c.args.pages.now) n p listed in
    let test = c.loop-index-test.false in
    c.loop-index.invariant n p (omega arith) listed slot a
