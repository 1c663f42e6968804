use Rattle.std.proofs.Common.{pos, subst, arith}
use Rattle.std.proofs.lemmas.List.{length-map}
use Rattle.ttx_page.specs.Views.{page_of}
use Rattle.ttx_proof.specs.Splices.{HasSeam}
use Rattle.ttx_proof.specs.Splicing.{splice_between, TellsSeamOf}
use Rattle.ttx_certify.proofs.PageByPage.{page_at}
use Rattle.ttx_proof.proofs.PlacesOfPages.{contains_at, first_common, one_more, all_common}
use Rattle.ttx_proof.proofs.first_seam.find_seam.Goals as goal

pub loop-place-init : goal.loop-place-init
loop-place-init c = λ i q lt. absurd (omega arith)

pub loop-place-preserved : goal.loop-place-preserved
loop-place-preserved c =
    let s = splice_between c.args.sides.now in
    let p = page_of c.index-pages-place.result in
    let at = page_at c.args.sides.now.new.pages.now c.loop-place.place c.index-pages-place.result c.loop-place-test.true c.index-pages-place.is in
    let told = c.seam_of.ensures (contains_at s.new_pages c.loop-place.place p at) in
    one_more s (λ q. HasSeam s q → ⊥) c.loop-place.place p at (subst (TellsSeamOf s p) c.in_default.is told) c.loop-place.invariant

pub returns-in-Some : goal.returns-in-Some
returns-in-Some c =
    let s = splice_between c.args.sides.now in
    let p = page_of c.index-pages-place.result in
    let at = page_at c.args.sides.now.new.pages.now c.loop-place.place c.index-pages-place.result c.loop-place-test.true c.index-pages-place.is in
    let told = subst (TellsSeamOf s p) c.in-Some.is (c.seam_of.ensures (contains_at s.new_pages c.loop-place.place p at)) in (
      p,
      c.id-page.ensures,
      first_common s (λ q. HasSeam s q → ⊥) c.loop-place.place (HasSeam s) (λ q f h. f h) p at told.0
          (pos c.in-Some.slot, told.1.here) c.loop-place.invariant,
      told.1,
    )

pub returns : goal.returns
returns c =
    let s = splice_between c.args.sides.now in
    all_common s (λ q. HasSeam s q → ⊥) c.loop-place.place
    (let l = length-map c.args.sides.now.new.pages.now page_of in let t = c.loop-place-test.false in omega arith)
    c.loop-place.invariant
