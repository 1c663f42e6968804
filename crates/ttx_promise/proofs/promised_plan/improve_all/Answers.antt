use Rattle.std.proofs.Common.{map, subst}
use Rattle.ttx_cycle.specs.Cycles.{slots_of}
use Rattle.ttx_source.specs.PromiseViews.{promise_view}
use Rattle.ttx_promise.specs.Promises.{Improves}
use Rattle.ttx_promise.specs.declared.promised_plan.Improved.{Improved}
use Rattle.ttx_promise.proofs.RaisedPages.{same_service, further_raised}
use Rattle.ttx_promise.proofs.promised_plan.improve_all.Goals as goal

pub loop-cycle-init : goal.loop-cycle-init
loop-cycle-init c = record { plan = c.requires.plan; raised = same_service (map promise_view c.args.promises.now) c.args.service.now }

pub loop-cycle-preserved : goal.loop-cycle-preserved
loop-cycle-preserved c =
    let promises = map promise_view c.args.promises.now in
    let step = subst (λ (a : Improved). Improves c.args.viewers promises c.loop-cycle.service c.improve.new.service (slots_of c.loop-cycle.cycle) a)
    c.in-Ok-Raised.field-0-is c.in-Ok-Raised.ensures in
    record {
      plan = step.2;
      raised = further_raised promises c.args.service.now c.loop-cycle.service c.improve.new.service c.loop-cycle.invariant.raised step.0;
    }
