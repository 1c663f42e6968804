use Rattle.std.proofs.Common.{map, arith}
use Rattle.ttx_source.specs.PromiseViews.{promise_view}
use Rattle.ttx_carousel.proofs.CarouselPlans.{kept_at, next_last, ended_most}
use Rattle.ttx_carousel.proofs.plans.keep_stays.Goals as goal

pub returns-in-Kept : goal.returns-in-Kept
returns-in-Kept c =
    kept_at c.args.carousel.now.receivers (map promise_view c.args.stays.now) c.args.service.now c.loop-laps.laps c.loop-laps.last
    c.loop-laps.invariant (omega (arith, c.loop-laps.auto.laps)) c.in-Kept.cycle c.in-Kept.ensures

pub loop-laps-preserved : goal.loop-laps-preserved
loop-laps-preserved c =
    next_last c.args.carousel.now.receivers (map promise_view c.args.stays.now) c.args.service.now c.loop-laps.laps c.loop-laps.last
    c.loop-laps.invariant (omega (arith, c.loop-laps.auto.laps)) c.in-Short.numbers c.in-Short.ensures

pub returns : goal.returns
returns c =
    let end = c.loop-laps.auto.laps-end in
    let over = c.loop-laps-test.false in
    ended_most c.args.carousel.now.receivers (map promise_view c.args.stays.now) c.args.service.now c.loop-laps.laps c.most_laps-most.result
    c.loop-laps.last c.loop-laps.invariant (omega (arith, end, over)) c.most_laps-most.ensures.some c.most_laps-most.ensures.value
    c.ended-2.result c.ended-2.ensures
