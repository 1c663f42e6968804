use Rattle.std.proofs.Common.{◌≡◌, pos}
use Rattle.ttx_page.specs.Streams.{repeated}
use Rattle.ttx_cycle.specs.Cycles.{slots_of}
use Rattle.ttx_counter.specs.Sources.{plain_from}
use Rattle.ttx_counter.proofs.plain.advance.Given as goal

abbrev pub invariant-loop-i : goal.invariant-loop-i
invariant-loop-i l = record {
  memory : l.receiver.memory ≡ plain_from l.initial.receiver.lines l.initial.receiver.selection l.initial.receiver.memory
      (repeated (slots_of l.sorted.cycle.now)) (pos l.begin) l.i;
  selection : l.receiver.selection ≡ l.initial.receiver.selection;
  lines : l.receiver.lines ≡ l.initial.receiver.lines;
}
