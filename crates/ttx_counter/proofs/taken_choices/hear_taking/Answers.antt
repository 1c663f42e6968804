use Rattle.std.proofs.Common.{◌≡◌, ◌≤◌, arith, subst, sym}
use Rattle.ttx_page.specs.Streams.{repeated}
use Rattle.ttx_counter.specs.Following.{IsHeardTaking}
use Rattle.ttx_counter.specs.Hearing.{IsHitBy}
use Rattle.ttx_counter.proofs.SentRows.{slot_at}
use Rattle.ttx_counter.proofs.KeyCursors.{cursor_begins, cursor_next}
use Rattle.ttx_counter.proofs.ReceivedSlots.{hit_by}
use Rattle.ttx_counter.proofs.TakenChoices.{none_taken, more_taken, left_after}
use Rattle.ttx_counter.proofs.taken_choices.hear_taking.Goals as goal

pub loop-i-init : goal.loop-i-init
loop-i-init c = record {
  cursor = cursor_begins c.args.run.now.keys.now;
  left = c.requires.choices;
  lines = c.requires.lines;
  heard = none_taken (repeated c.slots-slots.result.now) c.args.run.now.start c.args.run.now.keys.now c.args.receiver.now
      c.new-taken.result.items c.new-taken.ensures.items;
}

pub loop-i-preserved : goal.loop-i-preserved
loop-i-preserved c =
    let x = c.slots-slots.result.now in
    let v = c.loop-i.invariant in
    let keys = c.args.run.now.keys.now in
    let i = c.loop-i.i in
    let slot = c.hit_slot-slot.result in
    let hit = subst (λ z. IsHitBy keys i z slot) (sym (slot_at x c.args.run.now.start i c.place.result c.place.ensures.value))
    (hit_by keys c.requires.sorted i c.loop-i.from c.end_of-to.result v.cursor c.end_of-to.ensures _ slot c.hit_slot-slot.ensures) in
    record {
      cursor = cursor_next keys c.requires.sorted i c.loop-i.from c.end_of-to.result v.cursor c.end_of-to.ensures;
      left = left_after c.loop-i.receiver c.step.new.self slot c.loop-i.left.now c.later_of-left.result.now c.has_choice-has.result v.left
          c.has_choice-has.ensures c.later_of-left.ensures c.step.ensures.value;
      lines = subst (λ r. r.tuned.lines ≤ 32) (sym c.step.ensures.value) v.lines;
      heard = more_taken (repeated x) c.args.run.now.start i keys c.args.receiver.now c.loop-i.receiver c.step.new.self slot
          c.loop-i.left.now c.has_choice-has.result c.next_of.result c.choice_at.result c.loop-i.taken.items c.keep_choice.new.taken.items
          hit c.step.ensures.value v.left c.has_choice-has.ensures c.next_of.ensures c.choice_at.ensures c.in_ok-keep_choice.ensures v.heard;
    }

pub returns : goal.returns
returns c =
    let whole : c.loop-i.i ≡ c.args.run.now.count = omega arith in
    subst (λ x. IsHeardTaking (repeated x) c.args.run.now.start c.args.run.now.count c.args.run.now.keys.now c.args.receiver.now
    c.loop-i.receiver c.loop-i.taken.items) c.slots-slots.ensures.slots
    (subst (λ n. IsHeardTaking (repeated c.slots-slots.result.now) c.args.run.now.start n c.args.run.now.keys.now c.args.receiver.now
    c.loop-i.receiver c.loop-i.taken.items) whole c.loop-i.invariant.heard)
