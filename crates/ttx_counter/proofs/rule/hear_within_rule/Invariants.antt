use Rattle.std.proofs.Common.{◌≡◌, pos, length}
use Rattle.ttx_page.specs.Streams.{repeated}
use Rattle.ttx_counter.specs.Keys.{is_hit}
use Rattle.ttx_counter.specs.Listening.{mine_from}
use Rattle.ttx_counter.specs.Cells.{AreStreaks}
use Rattle.ttx_counter.specs.Hearing.{IsHeard}
use Rattle.ttx_counter.specs.Rule.{IsCursor, sends_row}
use Rattle.ttx_counter.proofs.rule.hear_within_rule.Given as goal

abbrev pub invariant-loop-i : goal.invariant-loop-i
invariant-loop-i l = record {
  mine : l.mine ≡ mine_from l.page (repeated l.slots) (pos l.run.start) l.initial.mine l.i;
  rows : length l.streaks.latest.items ≡ 25;
  places : length l.streaks.cells.items ≡ 1050;
  streaks : AreStreaks (sends_row l.page (repeated l.slots) (pos l.run.start) l.initial.mine)
      (is_hit l.keys) l.repeat l.i l.streaks.latest.items l.streaks.cells.items;
  cursor : IsCursor l.keys l.i l.from;
  heard : IsHeard (repeated l.slots) l.run.start l.i l.keys l.initial.receiver l.receiver;
}
