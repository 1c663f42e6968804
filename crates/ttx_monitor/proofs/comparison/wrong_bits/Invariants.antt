use Rattle.std.proofs.Common.{◌≡◌, ◌*◌, ◌≤◌}
use Rattle.ttx_monitor.specs.Totals.{sum_to, wrong_bits_at}
use Rattle.ttx_monitor.proofs.comparison.wrong_bits.Given as goal

abbrev pub invariant-loop-x : goal.invariant-loop-x
invariant-loop-x l = record {
  few : l.wrong ≤ 8 * l.x;
  summed : l.wrong ≡ sum_to (wrong_bits_at l.sent l.received) l.x;
}
