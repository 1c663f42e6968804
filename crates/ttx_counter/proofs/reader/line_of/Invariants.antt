use Rattle.std.proofs.Common.{◌≡◌, ◌+◌, ◌≤◌, drop}
use Rattle.ttx_counter.specs.CounterReading.{line_of}
use Rattle.ttx_counter.proofs.reader.line_of.Given as goal

abbrev pub invariant-loop-i : goal.invariant-loop-i
invariant-loop-i l = record {
  same : line_of 1 l.text l.own ≡ line_of l.line (drop l.i l.text) (drop l.i l.own);
  few : l.line ≤ l.i + 1;
}
