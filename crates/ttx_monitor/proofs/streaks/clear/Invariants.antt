use Rattle.std.proofs.Common.{◌+◌, ◌≤◌, length}
use Rattle.ttx_monitor.specs.Streaks.{AreCleared}
use Rattle.ttx_monitor.proofs.streaks.clear.Given as goal

abbrev pub invariant-loop-x : goal.invariant-loop-x
invariant-loop-x l = record {
  from : l.fn.text.0 ≤ l.x;
  room : l.at + 42 ≤ length l.cells.items;
  cleared : AreCleared l.at l.fn.text.0 l.x l.initial.cells.items l.cells.items;
}
