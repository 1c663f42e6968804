use Rattle.std.proofs.Common.{map}
use Rattle.ttx_source.specs.PromiseViews.{promise_view}
use Rattle.ttx_carousel.specs.Planning.{IsLast}
use Rattle.ttx_carousel.proofs.plans.keep_stays.Given as goal

abbrev pub invariant-loop-laps : goal.invariant-loop-laps
invariant-loop-laps l = IsLast l.carousel.receivers (map promise_view l.stays) l.service l.laps l.last
