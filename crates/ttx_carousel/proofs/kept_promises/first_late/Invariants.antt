use Rattle.std.proofs.Common.{◌≡◌, ℕ, ◌<◌, Some, map}
use Rattle.std.specs.Prelude.{slice_get}
use Rattle.ttx_source.specs.PromiseViews.{promise_view}
use Rattle.ttx_source.specs.Promises.{PromiseFields}
use Rattle.ttx_carousel.specs.Waiting.{told_of, IsInTime}
use Rattle.ttx_carousel.proofs.kept_promises.first_late.Given as goal

abbrev pub invariant-loop-promise : goal.invariant-loop-promise
invariant-loop-promise l = (other : ℕ) (kept : PromiseFields) → other < l.promise-index →
    slice_get (map promise_view l.promises) other ≡ Some kept → IsInTime (map told_of l.all) kept
