use Rattle.std.proofs.Common.{map}
use Rattle.ttx_cycle.specs.Cycles.{slots_of}
use Rattle.ttx_source.specs.PromiseViews.{promise_view}
use Rattle.ttx_carousel.specs.Judging.{AreShortTo}
use Rattle.ttx_carousel.proofs.kept_promises.short_stays.Given as goal

abbrev pub invariant-loop-stay : goal.invariant-loop-stay
invariant-loop-stay l = AreShortTo (map promise_view l.stays) l.service (slots_of l.cycle) l.stay-index l.told.items
