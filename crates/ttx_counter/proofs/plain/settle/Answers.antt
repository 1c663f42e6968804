use Rattle.std.proofs.Common.{◌∙◌, pos, refl, sym, ap, arith}
use Rattle.ttx_page.specs.Streams.{repeated}
use Rattle.ttx_cycle.specs.Cycles.{slots_of, slots_of-IsCycle}
use Rattle.ttx_counter.proofs.PlainRuns.{plain_none, period_at, settled_at}
use Rattle.ttx_counter.specs.Sources.{plain_from}
use Rattle.ttx_counter.proofs.plain.settle.Goals as goal

pub loop-i-init : goal.loop-i-init
loop-i-init c = record {
  memory = sym
      (plain_none _ _ (repeated (slots_of c.args.sorted.now.cycle.now)) c.args.receiver.now.memory (pos 0))
      ∙ ap (plain_from _ _ c.args.receiver.now.memory (repeated (slots_of c.args.sorted.now.cycle.now)) (pos 0)) (omega arith);
  selection = refl;
  lines = refl;
}

pub loop-i-preserved : goal.loop-i-preserved
loop-i-preserved c =
    let i = c.loop-i.invariant in
    let a = c.advance.ensures in
    record {
      memory = period_at c.args.receiver.now c.loop-i.receiver c.advance.new.receiver.memory
          (repeated (slots_of c.args.sorted.now.cycle.now)) c.loop-i.i c.args.period i.selection i.lines i.memory a.memory;
      selection = a.selection ∙ i.selection;
      lines = a.lines ∙ i.lines;
    }

pub returns-then-are_same-clause-memory : goal.returns-then-are_same-clause-memory
returns-then-are_same-clause-memory c =
    let i = c.loop-i.invariant in
    settled_at c.cycles_repeat.ensures (slots_of c.args.sorted.now.cycle.now)
    (slots_of-IsCycle c.args.sorted.now.cycle.now).some c.args.receiver.now c.loop-i.receiver c.advance.new.receiver.memory
    c.loop-i.i c.args.periods c.args.period c.requires.period
    (omega arith) i.selection i.lines i.memory c.advance.ensures.memory
    (sym c.memory-in-loop-i.ensures ∙ c.are_same.ensures c.if-are_same.true ∙ c.memory.ensures)
