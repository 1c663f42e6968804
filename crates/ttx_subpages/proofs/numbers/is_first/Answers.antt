use Rattle.std.proofs.Common.{◌≡◌, ◌∙◌, true, false, map, Some, sym, ap, arith}
use Rattle.std.proofs.lemmas.List.{length-map}
use Rattle.std.proofs.lemmas.Option.{get_or_from_slice_get}
use Rattle.std.specs.List.{find}
use Rattle.ttx_header.specs.Ids.{same_id}
use Rattle.ttx_page.specs.Views.{page_of}
use Rattle.ttx_certify.proofs.PageByPage.{page_at, same_page}
use Rattle.ttx_subpages.specs.Numbers.{has_number, is_id}
use Rattle.ttx_subpages.proofs.FirstPages.{tested_same, found, not_yet}
use Rattle.ttx_subpages.proofs.numbers.is_first.Goals as goal

pub returns-then-has_number : goal.returns-then-has_number
returns-then-has_number c =
    let id = c.args.id in
    let pages = c.args.pages.now in
    let xs = map page_of pages in
    let test = has_number id.mag id.page in
    let i = c.loop-index.index in
    let first = c.index-pages-index.result in
    let again = c.index-pages-index-then-has_number.result in
    let size = length-map pages page_of in
    let lt = c.loop-index-test.true in
    let here = page_at pages i first lt c.index-pages-index.is in
    let same = same_page (page_of again) (page_of first) (page_at pages i again lt c.index-pages-index-then-has_number.is) here in
    let at = get_or_from_slice_get xs i (page_of first) (page_of first) here in
    let passes : test (page_of first) ≡ true =
    ap (λ n. has_number id.mag n (page_of first)) (sym c.page.ensures) ∙ ap (λ m. has_number m c.page.result (page_of first)) (sym c.mag.ensures.value)
    ∙ sym c.has_number.ensures ∙ c.if-has_number.true in
    let one : find test xs ≡ Some (page_of again) =
    sym c.loop-index.invariant.rest ∙ found test xs i (page_of first) (omega arith) (ap test at ∙ passes) ∙ ap Some (at ∙ sym same) in
    c.eq.ensures ∙ tested_same c.id.result id ∙ ap (λ x. same_id x id) c.id.ensures ∙ ap (is_id id) (sym one)

pub loop-index-preserved : goal.loop-index-preserved
loop-index-preserved c =
    let id = c.args.id in
    let pages = c.args.pages.now in
    let xs = map page_of pages in
    let test = has_number id.mag id.page in
    let i = c.loop-index.index in
    let first = c.index-pages-index.result in
    let size = length-map pages page_of in
    let lt = c.loop-index-test.true in
    let at = get_or_from_slice_get xs i (page_of first) (page_of first) (page_at pages i first lt c.index-pages-index.is) in
    let fails : test (page_of first) ≡ false =
    ap (λ n. has_number id.mag n (page_of first)) (sym c.page.ensures) ∙ ap (λ m. has_number m c.page.result (page_of first)) (sym c.mag.ensures.value)
    ∙ sym c.has_number.ensures ∙ c.if-has_number.false in
    record { rest = sym (not_yet test xs i (page_of first) (omega arith) (ap test at ∙ fails)) ∙ c.loop-index.invariant.rest }
