-- Packets that receivers of each page may lose.
use Rattle.std.proofs.Common.{◌≡◌, ℕ, ◌+◌, ◌<◌, ◌≤◌, List, length, map, get_or, slice_get, Some, refl, sym, ap, ◌∙◌, subst, inl, inr, arith}
use Rattle.std.specs.Option.{option_map}
use Rattle.std.proofs.lemmas.Bool.{cases_lt}
use Rattle.std.proofs.lemmas.Option.{slice_get-map, slice_get_read, slice_get_within}
use Rattle.std.proofs.lemmas.List.{length-map}
use Rattle.ttx_page.specs.declared.page.Page.{Page as PageValue}
use Rattle.ttx_page.specs.Pages.{Page}
use Rattle.ttx_page.specs.Views.{page_of}

pub page_here : (pages : List PageValue) (i : ℕ) (x : PageValue) → i < length pages → x ≡ get_or pages i x →
    slice_get (map page_of pages) i ≡ Some (page_of x)
page_here pages i x lt is = slice_get-map page_of pages i ∙ ap (option_map page_of) (slice_get_read pages (length pages) i x refl lt is)

some_same : {a b : Page} → Some a ≡ Some b → a ≡ b
some_same e = cc

-- what holds of the pages before one, and of it, holds of all up to it
pub each_more : (P : Page → Type 0) (pages : List PageValue) (i : ℕ) (x : PageValue) → i < length pages → x ≡ get_or pages i x → P (page_of x) →
    ((j : ℕ) (p : Page) → j < i → slice_get (map page_of pages) j ≡ Some p → P p) → (j : ℕ) (p : Page) → j < i + 1 →
    slice_get (map page_of pages) j ≡ Some p → P p
each_more P pages i x lt is here before j p le listed = elim (cases_lt j i) as (λ _. P p) [
  | inl earlier ↦ before j p earlier listed
  | inr later ↦
      let same : j ≡ i = omega arith in
      subst P (some_same (sym (page_here pages i x lt is) ∙ ap (slice_get (map page_of pages)) (sym same) ∙ listed)) here
]

-- of all pages, where the count is reached
pub each_page : (P : Page → Type 0) (pages : List PageValue) (n : ℕ) → length pages ≤ n →
    ((j : ℕ) (p : Page) → j < n → slice_get (map page_of pages) j ≡ Some p → P p) → (j : ℕ) (p : Page) →
    slice_get (map page_of pages) j ≡ Some p → P p
each_page P pages n all each j p listed =
    each j p (let l = length-map pages page_of in let w = slice_get_within (map page_of pages) j p listed in omega arith) listed
