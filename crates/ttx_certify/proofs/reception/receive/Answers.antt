use Rattle.std.proofs.Common.{◌<◌, ◌∙◌, [], length, take, arith}
use Rattle.std.proofs.lemmas.List.{take_more}
use Rattle.ttx_certify.proofs.reception.receive.Goals as goal

pub loop-slot-preserved : goal.loop-slot-preserved
loop-slot-preserved g c =
    let i = c.loop-slot.invariant in
    let inside : c.loop-slot.slot-index < length c.args.slots.now = omega arith in
    record {
      run = rw (take_more c.args.slots.now c.loop-slot.slot-index [] inside)
          (c.runs_go_on.ensures _ _ _ _ _ _ (g.R.Receiver.held c.args.receiver.now) _ _
          (take c.loop-slot.slot-index c.args.slots.now) _ i.class i.lines i.selection i.run c.step.ensures.step);
      class = c.step.ensures.class ∙ i.class;
      selection = c.step.ensures.selection ∙ i.selection;
      lines = c.step.ensures.lines ∙ i.lines;
    }
