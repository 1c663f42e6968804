use Rattle.std.proofs.Common.{map}
use Rattle.ttx_cycle.specs.Cycles.{slots_of}
use Rattle.ttx_source.specs.PromiseViews.{promise_view}
use Rattle.ttx_promise.specs.Promises.{IsRaised, IsSpreadFor, room}
use Rattle.ttx_promise.proofs.promised_plan.improve_all.Given as goal

abbrev pub invariant-loop-cycle : goal.invariant-loop-cycle
invariant-loop-cycle l = record {
  plan : IsSpreadFor l.viewers.receivers.late l.viewers.receivers.class l.service (slots_of l.cycle);
  raised : IsRaised (map promise_view l.promises) l.initial.service l.service;
}

abbrev pub decreases-loop-cycle : goal.decreases-loop-cycle
decreases-loop-cycle l = room l.service.pages
