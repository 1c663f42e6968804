use Rattle.std.proofs.Common.{◌≤◌}
use Rattle.ttx_monitor.specs.Streaks.{IsLargestIn}
use Rattle.ttx_monitor.proofs.streaks.longest_in.Given as goal

abbrev pub invariant-loop-x : goal.invariant-loop-x
invariant-loop-x l = record {
  from : l.fn.text.0 ≤ l.x;
  largest : IsLargestIn l.at l.fn.text.0 l.x l.cells.items l.longest l.largest;
}
