-- Pages of a list, place by place.
use Rattle.std.proofs.Common.{◌≡◌, ℕ, ◌<◌, List, length, map, get_or, slice_get, Option, Some, refl, ap, ◌∙◌}
use Rattle.std.specs.Option.{option_map}
use Rattle.std.proofs.lemmas.Option.{slice_get-map, slice_get_read}
use Rattle.ttx_page.specs.Pages.{Page}
use Rattle.ttx_page.specs.declared.page.Page.{Page as PageValue}
use Rattle.ttx_page.specs.Views.{page_of}

pub page_at : (pages : List PageValue) (i : ℕ) (p : PageValue) → i < length pages → p ≡ get_or pages i p →
    slice_get (map page_of pages) i ≡ Some (page_of p)
page_at pages i p lt e = slice_get-map page_of pages i ∙ ap (option_map page_of) (slice_get_read pages (length pages) i p refl lt e)

-- one place of a list has one page
pub same_page : {o : Option Page} (p q : Page) → o ≡ Some p → o ≡ Some q → p ≡ q
same_page p q e f = cc
