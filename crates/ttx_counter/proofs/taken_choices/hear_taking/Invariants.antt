use Rattle.std.proofs.Common.{◌≡◌, ◌≤◌}
use Rattle.ttx_page.specs.Streams.{repeated}
use Rattle.ttx_counter.specs.Rule.{IsCursor}
use Rattle.ttx_counter.specs.Following.{IsHeardTaking}
use Rattle.ttx_counter.proofs.taken_choices.hear_taking.Given as goal

abbrev pub invariant-loop-i : goal.invariant-loop-i
invariant-loop-i l = record {
  cursor : IsCursor l.keys l.i l.from;
  left : l.left ≡ l.receiver.choices;
  lines : l.receiver.tuned.lines ≤ 32;
  heard : IsHeardTaking (repeated l.slots) l.run.start l.i l.keys l.initial.receiver l.receiver l.taken.items;
}
