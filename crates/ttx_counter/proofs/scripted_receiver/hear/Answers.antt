use Rattle.std.proofs.Common.{subst, sym}
use Rattle.ttx_page.specs.Streams.{repeated}
use Rattle.ttx_counter.specs.Hearing.{IsHitBy}
use Rattle.ttx_counter.proofs.SentRows.{slot_at}
use Rattle.ttx_counter.proofs.KeyCursors.{cursor_begins, cursor_next}
use Rattle.ttx_counter.proofs.ReceivedSlots.{hit_by, heard_none, heard_more}
use Rattle.ttx_counter.proofs.scripted_receiver.hear.Goals as goal

pub loop-i-init : goal.loop-i-init
loop-i-init c = record {
  cursor = cursor_begins c.args.run.now.keys.now;
  heard = heard_none (repeated c.slots-slots.result.now) c.args.run.now.start c.args.run.now.keys.now c.args.receiver.now;
}

pub loop-i-preserved : goal.loop-i-preserved
loop-i-preserved c =
    let x = c.slots-slots.result.now in
    let i = c.loop-i.invariant in
    let keys = c.args.run.now.keys.now in
    record {
      cursor = cursor_next keys c.requires.sorted c.loop-i.i c.loop-i.from c.end_of-to.result i.cursor c.end_of-to.ensures;
      heard = heard_more (repeated x) c.args.run.now.start c.loop-i.i keys _ c.loop-i.receiver _ c.hit_slot-slot.result
          (subst (λ z. IsHitBy keys c.loop-i.i z c.hit_slot-slot.result)
          (sym (slot_at x c.args.run.now.start c.loop-i.i c.place.result c.place.ensures.value))
          (hit_by keys c.requires.sorted c.loop-i.i c.loop-i.from c.end_of-to.result i.cursor c.end_of-to.ensures _
          c.hit_slot-slot.result c.hit_slot-slot.ensures))
          c.step.ensures.value i.heard;
    }
