use Rattle.ttx_promise.proofs.Improvements.{none_promised}
use Rattle.ttx_promise.proofs.promised_plan.plan_unpromised.Goals as goal

pub returns-in-Ok : goal.returns-in-Ok
returns-in-Ok c =
    none_promised c.args.viewers c.args.service.now c.in-Ok.cycle
    record {
      carries = c.in-Ok.ensures.carries;
      planned = c.in-Ok.ensures.planned;
      accepted = c.in-Ok.ensures.accepted;
      followed = c.in-Ok.ensures.followed;
    }
