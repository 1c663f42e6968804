use Rattle.std.proofs.Common.{◌≡◌, ◌<◌, ℕ, Some, map, slice_get}
use Rattle.ttx_page.specs.Pages.{Page}
use Rattle.ttx_page.specs.Views.{page_of}
use Rattle.ttx_late.proofs.followers.place_of.Given as goal

abbrev pub invariant-loop-index : goal.invariant-loop-index
invariant-loop-index l = record { none : (n : ℕ) (p : Page) → n < l.index → slice_get (map page_of l.pages) n ≡ Some p → p.id ≡ l.id → ⊥ }
