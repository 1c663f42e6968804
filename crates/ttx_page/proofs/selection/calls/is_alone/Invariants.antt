use Rattle.std.proofs.Common.{◌≡◌, ℕ, ◌<◌, Some, false, map, slice_get}
use Rattle.ttx_page.specs.Pages.{Page, is_other_subpage}
use Rattle.ttx_page.specs.Views.{page_of}
use Rattle.ttx_page.proofs.selection.calls.is_alone.Given as goal

abbrev pub invariant-loop-other : goal.invariant-loop-other
invariant-loop-other l = (n : ℕ) (q : Page) → n < l.other-index → slice_get (map page_of l.pages) n ≡ Some q →
    is_other_subpage (page_of l.page) q ≡ false
