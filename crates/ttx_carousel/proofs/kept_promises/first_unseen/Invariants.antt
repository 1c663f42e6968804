use Rattle.std.proofs.Common.{◌≡◌, ℕ, ◌<◌, Some, map}
use Rattle.std.specs.Prelude.{slice_get}
use Rattle.ttx_witness.specs.declared.wait_times.wait.PageWait.{PageWait}
use Rattle.ttx_carousel.specs.Waiting.{told_of, HasFields}
use Rattle.ttx_carousel.proofs.kept_promises.first_unseen.Given as goal

abbrev pub invariant-loop-one : goal.invariant-loop-one
invariant-loop-one l = (other : ℕ) (earlier : PageWait) → other < l.one-index → slice_get (map told_of l.all) other ≡ Some earlier →
    HasFields earlier.wait
