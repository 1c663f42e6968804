use Rattle.std.proofs.Common.{◌≡◌, ◌∙◌, Some, None, slice_get, map, refl, sym, ap, subst, arith, below_more, rules}
use Rattle.std.proofs.lemmas.Bool.{false≢true}
use Rattle.toml.specs.Data.{Members}
use Rattle.toml.specs.View.{table_view}
use Rattle.ttx_page.specs.Pages.{Page}
use Rattle.ttx_page.specs.Views.{page_of}
use Rattle.ttx_desk.specs.Said.{author_page, SaysPage}
use Rattle.ttx_desk.proofs.Got.{got-within, got-some, got-here}
use Rattle.ttx_desk.proofs.said.says_texts.Goals as goal

same_table : (x y : Members) → Some x ≡ Some y → x ≡ y
same_table x y e = cc

pub returns-in_default : goal.returns-in_default
returns-in_default c = (
  (λ t. absurd (false≢true t)),
  (λ all.
      let i = c.loop-index.index in
      let some = got-some page_of c.pages-pages.result.now i c.loop-index-test.true in
      let told = all i (page_of some.0) (ap (λ ps. slice_get ps i) (sym c.pages-pages.ensures.value) ∙ some.1) in
      let found : author_page (table_view c.args.author.now) i ≡ Some told.0 = told.1 in
      let nothing : None ≡ author_page (table_view c.args.author.now) i = c.in_default.ensures in cc),
)

pub returns-then-not-branch : goal.returns-then-not-branch
returns-then-not-branch c = (
  (λ t. absurd (false≢true t)),
  (λ all.
      let pages = c.pages-pages.result.now in let i = c.loop-index.index in
      let table : Members = table_view c.in-Some.table.now in
      let found : author_page (table_view c.args.author.now) i ≡ Some table = search rules in
      let some = got-some page_of pages i c.loop-index-test.true in
      let told = all i (page_of some.0) (ap (λ ps. slice_get ps i) (sym c.pages-pages.ensures.value) ∙ some.1) in
      let same = ap page_of c.index-pages-index.is ∙ got-here page_of pages i c.index-pages-index.result (page_of some.0) some.1 in
      let said : SaysPage table (page_of c.index-pages-index.result) =
      subst (λ t. SaysPage t (page_of c.index-pages-index.result)) (same_table told.0 table (sym told.1 ∙ found))
      (subst (λ p. SaysPage told.0 p) (sym same) told.2) in
      sym c.if-not-branch.true ∙ c.in_ok-says_page.ensures.1 said),
)

pub loop-index-preserved : goal.loop-index-preserved
loop-index-preserved c =
    let pages = c.pages-pages.result.now in
    let i = c.loop-index.index in
    let author = table_view c.args.author.now in
    let table : Members = table_view c.in-Some.table.now in
    let found : author_page author i ≡ Some table = search rules in
    let said : SaysPage table (page_of c.index-pages-index.result) = c.in_ok-says_page.ensures.0 c.if-not-branch.false in
    let here : (page : Page) → slice_get (map page_of pages) i ≡ Some page → (t : Members) × (author_page author i ≡ Some t) × SaysPage t page =
    λ page got.
    let same = ap page_of c.index-pages-index.is ∙ got-here page_of pages i c.index-pages-index.result page got in
    (table, found, subst (λ p. SaysPage table p) same said) in
    below_more (λ k. (page : Page) → slice_get (map page_of pages) k ≡ Some page → (t : Members) × (author_page author k ≡ Some t) × SaysPage t page) i
    c.loop-index.invariant here

pub returns : goal.returns
returns c = (
  (λ always index page got.
      let pages = c.pages-pages.result.now in
      let mine : slice_get (map page_of pages) index ≡ Some page = ap (λ ps. slice_get ps index) c.pages-pages.ensures.value ∙ got in
      let inside = got-within page_of pages index page mine in
      c.loop-index.invariant index (omega arith) page mine),
  (λ all. refl),
)
