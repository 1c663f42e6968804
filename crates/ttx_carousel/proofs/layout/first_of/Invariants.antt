use Rattle.std.proofs.Common.{◌≡◌, ℕ, ◌<◌, false, map}
use Rattle.std.specs.Prelude.{slice_get, Some}
use Rattle.ttx_page.specs.Views.{page_of}
use Rattle.ttx_page.specs.Pages.{Page}
use Rattle.ttx_numbers.specs.Numbers.{share_number}
use Rattle.ttx_carousel.proofs.layout.first_of.Given as goal

abbrev pub invariant-loop-index : goal.invariant-loop-index
invariant-loop-index l = (k : ℕ) (q : Page) → k < l.index → slice_get (map page_of l.pages) k ≡ Some q →
    share_number (page_of l.page) q ≡ false
