use Rattle.std.proofs.Common.{◌≡◌, ◌++◌}
use Rattle.ttx_carousel.specs.Layout.{in_round}
use Rattle.ttx_carousel.proofs.layout.push_round.Given as goal

abbrev pub invariant-loop-index : goal.invariant-loop-index
invariant-loop-index l = l.order.items ≡ l.fn.order.items ++ in_round l.standings l.laps l.round l.index
