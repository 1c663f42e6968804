-- The pages of a list, seen as records.
use Rattle.std.proofs.Common.{◌≡◌, ℕ, ◌<◌, List, Some, None, length, get_or, map, slice_get, ap, ◌∙◌, inl, inr}
use Rattle.std.proofs.lemmas.Bool.{cases_lt}
use Rattle.std.proofs.lemmas.Option.{slice_get-map, slice_get-get_or, slice_get_past}
use Rattle.std.specs.Option.{option_map}
use Rattle.ttx_page.specs.declared.page.Page.{Page as PageValue}
use Rattle.ttx_page.specs.Pages.{Page}
use Rattle.ttx_page.specs.Views.{page_of}

pub slice_get-page_of : (pages : List PageValue) (n : ℕ) (d : PageValue) → n < length pages → slice_get (map page_of pages) n
    ≡ Some (page_of (get_or pages n d))
slice_get-page_of pages n d inside = slice_get-map page_of pages n ∙ ap (option_map page_of) (slice_get-get_or pages n d inside)

pub inside_from_slice_get : (pages : List PageValue) (n : ℕ) (q : Page) → slice_get (map page_of pages) n ≡ Some q → n < length pages
inside_from_slice_get pages n q e = elim (cases_lt n (length pages)) as (λ _. n < length pages) [
  | inl lt ↦ lt
  | inr past ↦ let none : slice_get (map page_of pages) n ≡ None = slice_get-map page_of pages n
      ∙ ap (option_map page_of) (slice_get_past pages n past) in cc
]
