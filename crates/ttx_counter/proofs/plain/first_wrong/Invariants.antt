use Rattle.std.proofs.Common.{◌≡◌, ◌↔◌, ℕ, ◌<◌, ◌≤◌, pos, true}
use Rattle.ttx_page.specs.Memories.{Memory, memory_of_page}
use Rattle.ttx_page.specs.Pages.{Page}
use Rattle.ttx_page.specs.Streams.{repeated}
use Rattle.ttx_cycle.specs.Cycles.{slots_of}
use Rattle.ttx_render.specs.Comparison.{SameButClock}
use Rattle.ttx_render.specs.View.{view_of}
use Rattle.ttx_counter.specs.Sources.{plain_from, IsWrongAfter}
use Rattle.ttx_counter.proofs.plain.first_wrong.Given as goal

abbrev pub invariant-loop-n : goal.invariant-loop-n
invariant-loop-n l = record {
  selection : l.receiver.selection ≡ l.initial.receiver.selection;
  lines : l.receiver.lines ≡ l.initial.receiver.lines;
  wrong : (l.wrong ≡ true) ↔ (SameButClock (view_of l.receiver.memory) l.own → ⊥);
  memory : (p : Page) (former : Memory) → l.own ≡ view_of (memory_of_page p) →
      l.initial.receiver.memory ≡ plain_from l.initial.receiver.lines l.initial.receiver.selection former
      (repeated (slots_of l.sorted.cycle.now)) (pos 0) l.low →
      (l.receiver.memory ≡ plain_from l.initial.receiver.lines l.initial.receiver.selection former
      (repeated (slots_of l.sorted.cycle.now)) (pos 0) l.n)
      × ((k : ℕ) → l.low ≤ k → k < l.n → IsWrongAfter
      (slots_of l.sorted.cycle.now) p l.initial.receiver.lines l.initial.receiver.selection former k → ⊥);
}
