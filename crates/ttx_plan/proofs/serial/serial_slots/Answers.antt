use Rattle.std.proofs.Common.{List, true, false, map, sym, ap, ◌∙◌, arith, take_all}
use Rattle.std.specs.Prelude.{flat_map}
use Rattle.std.proofs.lemmas.List.{append-nil}
use Rattle.ttx_plan.specs.declared.packet.Slot.{Slot}
use Rattle.ttx_plan.specs.Seen.{seen_sent}
use Rattle.ttx_plan.specs.Serial.{serial_block}
use Rattle.ttx_plan.proofs.LaidSlots.{laid_same}
use Rattle.ttx_plan.proofs.UsedQueues.{any_seen, used_more}
use Rattle.ttx_plan.proofs.serial.serial_slots.Goals as goal
use Rattle.ttx_plan.proofs.serial.serial_slots.Goals.{then-has_pages+in_ok-put, else-has_pages}

pub loop-queue-init : goal.loop-queue-init
loop-queue-init c =
    laid_same c.args.lines c.args.info _ _ c.loop-block.slots.items
    (ap (λ x. flat_map (serial_block c.args.lines) (map seen_sent x)) (take_all c.loop-block.block-index c.args.sent.now (omega arith))
    ∙ sym (append-nil (flat_map (serial_block c.args.lines) (map seen_sent c.args.sent.now))))
    c.loop-block.invariant

pub loop-queue-preserved : goal.loop-queue-preserved
loop-queue-preserved c =
    let front : List Slot = flat_map (serial_block c.args.lines) (map seen_sent c.args.sent.now) in
    elim c.if-has_pages.branch [
      | then-has_pages+in_ok-put w ↦ rw w.slots-is (laid_same c.args.lines c.args.info _ _ w.put.new.slots.items
          (used_more front (map seen_sent c.args.sent.now) c.loop-queue.queue true
          (sym (any_seen _ c.args.sent.now) ∙ sym c.has_pages.ensures ∙ w.if-has_pages.true))
          (rw w.time_filling.ensures at (w.in_ok-put.ensures _ c.loop-queue.invariant)))
      | else-has_pages w ↦ rw w.slots-is (laid_same c.args.lines c.args.info _ _ c.loop-queue.slots.items
          (used_more front (map seen_sent c.args.sent.now) c.loop-queue.queue false
          (sym (any_seen _ c.args.sent.now) ∙ sym c.has_pages.ensures ∙ w.if-has_pages.false))
          (laid_same c.args.lines c.args.info _ _ c.loop-queue.slots.items (sym (append-nil _)) c.loop-queue.invariant))
    ]
