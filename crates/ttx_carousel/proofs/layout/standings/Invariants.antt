use Rattle.std.proofs.Common.{◌≡◌, map}
use Rattle.ttx_source.specs.PromiseViews.{promise_view}
use Rattle.ttx_carousel.specs.Layout.{standings_to}
use Rattle.ttx_carousel.proofs.layout.standings.Given as goal

abbrev pub invariant-loop-index : goal.invariant-loop-index
invariant-loop-index l = l.standings.items ≡ standings_to l.service (map promise_view l.stays) l.places l.index
