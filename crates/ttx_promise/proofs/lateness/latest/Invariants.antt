use Rattle.std.proofs.Common.{map}
use Rattle.ttx_source.specs.PromiseViews.{promise_view}
use Rattle.ttx_promise.specs.Lateness.{weight_at}
use Rattle.ttx_promise.proofs.LatestPromise.{IsSoFar}
use Rattle.ttx_promise.proofs.lateness.latest.Given as goal

abbrev pub invariant-loop-number : goal.invariant-loop-number
invariant-loop-number l = IsSoFar (weight_at l.service.pages l.deadlines (map promise_view l.promises)) l.number l.latest l.most
