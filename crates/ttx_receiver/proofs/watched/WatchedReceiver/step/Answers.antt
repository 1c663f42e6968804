use Rattle.std.proofs.Common.{ap, ◌∙◌}
use Rattle.std.proofs.lemmas.Bool.{both_ways}
use Rattle.ttx_page.specs.Memories.{Memory}
use Rattle.ttx_receiver.proofs.FollowedRows.{behind_step, step_of}
use Rattle.ttx_receiver.proofs.watched.WatchedReceiver.step.Goals as goal

pub invariant_of-self : goal.invariant_of-self
invariant_of-self g c = record { inside = c.self.invariant.inside; alike = λ no. absurd (both_ways _ no c.if-self.true) }

pub invariant_of-self-then-storing : goal.invariant_of-self-then-storing
invariant_of-self-then-storing g c =
    let tr = g.R.Receiver in
    let r = c.self.inside.receiver in
    let held = tr.held r in
    let new = tr.held c.step-2.new.self in
    let bytes = c.bytes_of-bytes.result.now in
    let step = step_of (tr.kind r) (tr.field r) (tr.tuned r) held new c.args.slot bytes c.bytes_of-bytes.ensures c.step-2.ensures.step in
    let storing = c.storing-storing.ensures ∙ ap (λ (m : Memory). m.storing) c.memory.ensures in
    behind_step (tr.kind r) (tr.field r) (tr.tuned r) c.self.inside.cache held new bytes c.step_touches.ensures step
    c.self.inside.touched c.add.new.self c.touch_of-touch.result c.selection.result c.storing-storing.result
    c.touch_of-touch.ensures.value (c.selection.ensures ∙ c.step-2.ensures.selection) storing c.touch_of-touch.ensures.row c.add.ensures
    c.self.invariant
