use Rattle.std.proofs.Common.{◌≡◌, length}
use Rattle.ttx_counter.specs.Cells.{AreCounted}
use Rattle.ttx_counter.proofs.streaks.count_hits.Given as goal

abbrev pub invariant-loop-i : goal.invariant-loop-i
invariant-loop-i l = record {
  places : length l.cells.items ≡ 1050;
  counted : AreCounted l.sent.row l.sent.latest l.sent.now l.repeat l.keys l.hits.from l.i l.initial.cells.items l.cells.items;
}
