use Rattle.std.proofs.Common.{◌≡◌, ◌<◌, ℕ, slice_get, Some, map}
use Rattle.ttx_cycle.specs.Cycles.{slots_of}
use Rattle.ttx_page.specs.Pages.{Page}
use Rattle.ttx_page.specs.Views.{page_of}
use Rattle.ttx_proof.specs.Splices.{Splice, HasSeam}
use Rattle.ttx_proof.proofs.last_blocks.first_stored.Given as goal

abbrev pub invariant-loop-index : goal.invariant-loop-index
invariant-loop-index l = (c : Splice) → c.old ≡ slots_of l.old → c.new ≡ slots_of l.new → (i : ℕ) (q : Page) → i < l.index →
    slice_get (map page_of l.pages) i ≡ Some q → HasSeam c q → ⊥
