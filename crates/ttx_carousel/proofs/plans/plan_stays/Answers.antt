use Rattle.std.proofs.Common.{map}
use Rattle.ttx_source.specs.PromiseViews.{promise_view}
use Rattle.ttx_carousel.proofs.CarouselPlans.{with_stays, some_view}
use Rattle.ttx_carousel.proofs.plans.plan_stays.Goals as goal

pub returns : goal.returns
returns c =
    with_stays c.args.viewers (map promise_view c.args.promises.now) (map promise_view c.args.stays.now) c.args.service.now
    c.plan_promises.new.service (some_view c.args.stays.now c.if-is_empty.ensures) c.in-Ok.ensures.0 c.in-Ok.ensures.1 c.keep_all.result
    c.keep_all.ensures
