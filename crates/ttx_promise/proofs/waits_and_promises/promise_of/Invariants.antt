use Rattle.std.proofs.Common.{◌≡◌, drop, map}
use Rattle.ttx_source.specs.PromiseViews.{promise_view}
use Rattle.ttx_promise.specs.PromisedWaits.{promise_of}
use Rattle.ttx_promise.proofs.waits_and_promises.promise_of.Given as goal

abbrev pub invariant-loop-promise : goal.invariant-loop-promise
invariant-loop-promise l =
    promise_of (map promise_view (drop l.promise-index l.promises)) l.page ≡ promise_of (map promise_view l.promises) l.page
