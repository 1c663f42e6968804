use Rattle.std.proofs.Common.{◌≡◌, ◌≤◌, length}
use Rattle.ttx_carousel.specs.Layout.{order_to}
use Rattle.ttx_carousel.proofs.layout.order.Given as goal

abbrev pub invariant-loop-round : goal.invariant-loop-round
invariant-loop-round l = record {
  value : l.order.items ≡ order_to l.standings l.laps l.round;
  few : length l.order.items ≤ 65536;
}
