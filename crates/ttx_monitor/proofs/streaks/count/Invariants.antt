use Rattle.std.proofs.Common.{◌+◌, ◌≤◌, length}
use Rattle.ttx_monitor.specs.Streaks.{AreCounted, TellsFirst}
use Rattle.ttx_monitor.proofs.streaks.count.Given as goal

abbrev pub invariant-loop-x : goal.invariant-loop-x
invariant-loop-x l = record {
  from : l.fn.text.0 ≤ l.x;
  room : l.at + 42 ≤ length l.cells.items;
  counted : AreCounted l.at l.fn.text.0 l.x l.repeat l.pair.sent.now l.pair.received.now l.initial.cells.items l.cells.items;
  reached : TellsFirst l.repeat l.at l.fn.text.0 l.x l.cells.items l.first;
}
