use Rattle.std.proofs.Common.{◌≡◌, ◌≤◌}
use Rattle.ttx_monitor.specs.Totals.{count_to, is_wrong}
use Rattle.ttx_monitor.proofs.comparison.wrong_bytes.Given as goal

abbrev pub invariant-loop-x : goal.invariant-loop-x
invariant-loop-x l = record {
  few : l.wrong ≤ l.x;
  counted : l.wrong ≡ count_to (is_wrong l.sent l.received) l.x;
}
