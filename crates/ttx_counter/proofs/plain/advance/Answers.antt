use Rattle.std.proofs.Common.{◌≡◌, ◌∙◌, ◌+◌, ◌%◌, ◌<◌, pos, length, refl, sym, ap, subst}
use Rattle.ttx_cycle.specs.Cycles.{slots_of}
use Rattle.ttx_page.specs.Streams.{repeated}
use Rattle.ttx_counter.proofs.SentRows.{slot_at}
use Rattle.ttx_counter.proofs.PlainRuns.{plain_none, plain_step}
use Rattle.ttx_counter.proofs.plain.advance.Goals as goal

pub loop-i-init : goal.loop-i-init
loop-i-init c = record {
  memory = sym
      (plain_none _ _ (repeated (slots_of c.args.sorted.now.cycle.now)) c.args.receiver.now.memory (pos c.args.begin));
  selection =
      refl;
  lines = refl;
}

pub hear_at-requires : goal.hear_at-requires
hear_at-requires c = subst (λ s. c.place.result < length s) c.slots-period.ensures.slots c.place.ensures.inside

pub loop-i-preserved : goal.loop-i-preserved
loop-i-preserved c =
    let x = slots_of c.args.sorted.now.cycle.now in
    let i = c.loop-i.invariant in
    let turn : c.place.result ≡ (c.args.begin + c.loop-i.i) % length x = c.place.ensures.value
    ∙ ap (λ s. (c.args.begin + c.loop-i.i) % length s) c.slots-period.ensures.slots in
    record {
      memory = plain_step c.args.receiver.now c.loop-i.receiver c.hear_at.new.receiver (repeated x) (pos c.args.begin) c.loop-i.i _
          (slot_at x c.args.begin c.loop-i.i c.place.result turn) i.memory i.selection i.lines
          c.hear_at.ensures.value;
      selection = c.hear_at.ensures.selection ∙ i.selection;
      lines = c.hear_at.ensures.lines ∙ i.lines;
    }
