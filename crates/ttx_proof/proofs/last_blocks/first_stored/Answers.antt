use Rattle.std.proofs.Common.{◌≡◌, map, slice_get, subst, sym, ap, ◌∙◌, inl, inr, arith}
use Rattle.std.proofs.lemmas.Bool.{cases_lt}
use Rattle.std.proofs.lemmas.List.{length-map}
use Rattle.std.proofs.lemmas.Option.{slice_get_within}
use Rattle.ttx_page.specs.Views.{page_of}
use Rattle.ttx_certify.proofs.PageByPage.{page_at, same_page}
use Rattle.ttx_proof.specs.Splices.{HasSeam}
use Rattle.ttx_proof.specs.Verdicts.{TellsSeam}
use Rattle.ttx_proof.proofs.last_blocks.first_stored.Goals as goal

pub returns-in-Some : goal.returns-in-Some
returns-in-Some c = λ s e f.
    let p = c.index-pages-index.result in
    record {
      index = c.loop-index.index;
      first = page_of p;
      listed = page_at c.args.pages.now c.loop-index.index p c.loop-index-test.true c.index-pages-index.is;
      is = sym c.id-page.ensures;
      here = subst (TellsSeam s (page_of p)) c.in-Some.is (c.first_seam.ensures s e f);
      none_before = c.loop-index.invariant s e f;
    }

pub loop-index-preserved : goal.loop-index-preserved
loop-index-preserved c = λ s e f i q lt listed seam.
    let p = c.index-pages-index.result in
    elim (cases_lt i c.loop-index.index) as (λ _. ⊥) [
      | inl before ↦ c.loop-index.invariant s e f i q before listed seam
      | inr ge ↦
          let k : c.loop-index.index ≡ i = omega arith in
          let there = page_at c.args.pages.now c.loop-index.index p c.loop-index-test.true c.index-pages-index.is in
          let same = same_page (page_of p) q (ap (λ m. slice_get (map page_of c.args.pages.now) m) (sym k) ∙ there) listed in
          let none = subst (TellsSeam s (page_of p)) c.in_default.is (c.first_seam.ensures s e f) in
          none (subst (HasSeam s) (sym same) seam)
    ]

pub returns : goal.returns
returns c = λ s e f n p listed seam.
    let size = length-map c.args.pages.now page_of in
    let inside = slice_get_within (map page_of c.args.pages.now) n p listed in
    let test = c.loop-index-test.false in
    c.loop-index.invariant s e f n p (omega arith) listed seam
