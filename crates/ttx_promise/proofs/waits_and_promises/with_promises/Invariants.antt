use Rattle.std.proofs.Common.{◌≡◌, ◌++◌, drop, map}
use Rattle.ttx_source.specs.PromiseViews.{promise_view}
use Rattle.ttx_promise.specs.PromisedWaits.{with_promises}
use Rattle.ttx_promise.proofs.waits_and_promises.with_promises.Given as goal

abbrev pub invariant-loop-index : goal.invariant-loop-index
invariant-loop-index l =
    l.all.items ++ with_promises l.index (map promise_view l.promises) (drop l.index l.told) ≡ with_promises 0 (map promise_view l.promises) l.told
