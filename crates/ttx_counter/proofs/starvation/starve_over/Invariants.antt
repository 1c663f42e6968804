use Rattle.std.proofs.Common.{◌≡◌, map, pos}
use Rattle.ttx_page.specs.Streams.{repeated}
use Rattle.ttx_page.specs.Views.{memory_of}
use Rattle.ttx_cycle.specs.Cycles.{slots_of}
use Rattle.ttx_receiver.specs.Starving.{starved_memory, starved_hits, starved_choices}
use Rattle.ttx_counter.specs.StarvingRuns.{hit_at}
use Rattle.ttx_counter.proofs.starvation.starve_over.Given as goal

abbrev pub invariant-loop-i : goal.invariant-loop-i
invariant-loop-i l = record {
  memory : memory_of l.memory ≡ starved_memory l.receiver.lines l.receiver.selection l.receiver.item.now (repeated (slots_of l.cycle))
      (pos l.start) (memory_of l.receiver.former) l.i;
  hits : l.hits.items ≡ map (hit_at l.receiver.item.now)
      (starved_hits l.receiver.lines l.receiver.selection l.receiver.item.now (repeated (slots_of l.cycle)) (pos l.start)
      (memory_of l.receiver.former) l.i);
  choices : l.choices.items ≡ starved_choices l.receiver.lines l.receiver.selection l.receiver.item.now (repeated (slots_of l.cycle))
      (pos l.start) (memory_of l.receiver.former) l.i;
}
