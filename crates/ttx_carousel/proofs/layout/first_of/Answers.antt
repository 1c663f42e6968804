use Rattle.std.proofs.Common.{◌≡◌, map, length, ap, sym, ◌∙◌, subst, arith, inl, inr, Some}
use Rattle.std.specs.Prelude.{slice_get}
use Rattle.std.proofs.lemmas.Bool.{cases_eq}
use Rattle.std.proofs.lemmas.List.{length-map}
use Rattle.std.proofs.lemmas.Option.{slice_get_within}
use Rattle.ttx_page.specs.Views.{page_of}
use Rattle.ttx_numbers.specs.Numbers.{share_number}
use Rattle.ttx_numbers.proofs.NumberedPages.{value_there}
use Rattle.ttx_carousel.proofs.CarouselLayout.{same_one, first_at}
use Rattle.ttx_carousel.proofs.layout.first_of.Goals as goal

pub loop-index-preserved : goal.loop-index-preserved
loop-index-preserved c = λ k q lt e.
    let i = c.loop-index.index in
    let own = page_of c.index-pages-index.result in
    let here = value_there c.args.pages.now i c.index-pages-index.result c.loop-index-test.true c.index-pages-index.is in
    elim (cases_eq k i) [
      | inl same ↦
          let at : own ≡ q = same_one own q (sym here ∙ ap (slice_get (map page_of c.args.pages.now)) (sym same) ∙ e) in
          ap (share_number (page_of c.args.page.now)) (sym at) ∙ sym c.share_number.ensures ∙ c.if-share_number.false
      | inr apart ↦ c.loop-index.invariant k q (omega (arith, lt, apart)) e
    ]

pub returns-then-share_number : goal.returns-then-share_number
returns-then-share_number c =
    let i = c.loop-index.index in
    let own = page_of c.index-pages-index.result in
    let here = value_there c.args.pages.now i c.index-pages-index.result c.loop-index-test.true c.index-pages-index.is in
    let test = share_number (page_of c.args.page.now) in
    let size = length-map c.args.pages.now page_of in
    first_at test (map page_of c.args.pages.now) i own (omega (arith, size, c.loop-index-test.true)) c.loop-index.invariant
    (λ q e. ap test (same_one q own (sym e ∙ here)) ∙ sym c.share_number.ensures ∙ c.if-share_number.true)

pub returns : goal.returns
returns c =
    let size = length-map c.args.pages.now page_of in
    let end = c.loop-index-test.false in
    first_at (share_number (page_of c.args.page.now)) (map page_of c.args.pages.now) (length c.args.pages.now) (page_of c.args.page.now)
    (omega (arith, size)) (λ k q lt e. c.loop-index.invariant k q (omega (arith, lt, end)) e)
    (λ q e. let lt = slice_get_within (map page_of c.args.pages.now) (length c.args.pages.now) q e in absurd (omega (arith, lt, size)))
