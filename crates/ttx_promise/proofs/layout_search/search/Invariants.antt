use Rattle.std.proofs.Common.{map}
use Rattle.ttx_plan.specs.Spread.{IsTooLongSpread}
use Rattle.ttx_source.specs.PromiseViews.{promise_view}
use Rattle.ttx_promise.specs.Promises.{IsRaised, room}
use Rattle.ttx_promise.proofs.layout_search.search.Given as goal

abbrev pub invariant-loop-outlines : goal.invariant-loop-outlines
invariant-loop-outlines l = record {
  raised : IsRaised (map promise_view l.promises) l.initial.service l.service;
  fits : IsTooLongSpread l.viewers.receivers.late l.viewers.receivers.class l.service → ⊥;
}

abbrev pub decreases-loop-outlines : goal.decreases-loop-outlines
decreases-loop-outlines l = room l.service.pages
