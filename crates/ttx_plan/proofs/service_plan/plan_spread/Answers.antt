use Rattle.ttx_plan.proofs.PlanFaults.{spread_too_long}
use Rattle.ttx_plan.proofs.service_plan.plan_spread.Goals as goal

pub returns-clause-too_long : goal.returns-clause-too_long
returns-clause-too_long c =
    spread_too_long c.spread_places-places.result c.args.receivers.late c.args.receivers.class c.args.service.now c.plan_at.result
    c.pages-pages.ensures.ranges c.spread_places-places.ensures.spread c.plan_at.ensures.too_long
