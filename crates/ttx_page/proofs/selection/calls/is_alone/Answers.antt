use Rattle.std.proofs.Common.{◌≡◌, ◌∙◌, Some, false, map, slice_get, sym, ap, arith, inl, inr, subst, rules}
use Rattle.std.proofs.lemmas.Bool.{cases_lt}
use Rattle.ttx_page.specs.Pages.{is_other_subpage}
use Rattle.ttx_page.specs.Views.{page_of}
use Rattle.ttx_page.proofs.PageLists.{slice_get-page_of, inside_from_slice_get}
use Rattle.ttx_page.proofs.selection.calls.is_alone.Goals as goal

pub returns-then-is_other_subpage : goal.returns-then-is_other_subpage
returns-then-is_other_subpage c = (
  (λ e. cc),
  (λ alone.
      let other = c.other-item.result in
      let at : slice_get (map page_of c.args.pages.now) c.loop-other.other-index ≡ Some (page_of other) =
      slice_get-page_of c.args.pages.now c.loop-other.other-index other (omega arith) ∙ ap (λ x. Some (page_of x)) (sym c.other-item.is) in
      let none = alone c.loop-other.other-index (page_of other) at in
      let is = c.is_other_subpage.ensures in
      let found = c.if-is_other_subpage.true in
      cc),
)

pub loop-other-preserved : goal.loop-other-preserved
loop-other-preserved c = λ n q below at. elim (cases_lt n c.loop-other.other-index) as (λ _. is_other_subpage (page_of c.args.page.now) q ≡ false) [
  | inl lt ↦ c.loop-other.invariant n q lt at
  | inr ge ↦
      let e : c.loop-other.other-index ≡ n = omega arith in
      let other = c.other-item.result in
      let here : slice_get (map page_of c.args.pages.now) c.loop-other.other-index ≡ Some (page_of other) =
      slice_get-page_of c.args.pages.now c.loop-other.other-index other (omega arith) ∙ ap (λ x. Some (page_of x)) (sym c.other-item.is) in
      let there : slice_get (map page_of c.args.pages.now) n ≡ Some (page_of other) =
      subst (λ k. slice_get (map page_of c.args.pages.now) k ≡ Some (page_of other)) e here in
      let same : page_of other ≡ q = cc in
      subst (λ p. is_other_subpage (page_of c.args.page.now) p ≡ false) same (sym c.is_other_subpage.ensures ∙ c.if-is_other_subpage.false)
]

pub returns : goal.returns
returns c = (
  (λ e n q at. c.loop-other.invariant n q (let inside = inside_from_slice_get c.args.pages.now n q at in omega arith) at),
  (λ alone. search rules),
)
