use Rattle.std.proofs.Common.{[], replicate, arith}
use Rattle.ttx_plan.specs.declared.packet.Slot.TheVariants.{Empty, Sent}
use Rattle.ttx_plan.specs.Blocks.{header_packet, rest_packet}
use Rattle.ttx_plan.proofs.LaidSlots.{laid_same}
use Rattle.ttx_plan.proofs.GrowingLists.{same_more, others_begin, others_more, others_end}
use Rattle.ttx_plan.proofs.serial.put_page.Goals as goal

pub loop-init : goal.loop-init
loop-init c = c.in_ok-put.ensures

pub loop-preserved : goal.loop-preserved
loop-preserved c = λ list laid.
    laid_same c.args.lines c.args.info _ _ c.put-in-loop.new.slots.items
    (same_more list _ _ c.loop.counter) (c.in_ok-put-2.ensures _ (c.loop.invariant list laid))

pub loop-bytes-init : goal.loop-bytes-init
loop-bytes-init c = λ list laid.
    laid_same c.args.lines c.args.info _ _ c.loop.slots.items
    (others_begin list _ _ c.loop.counter c.args.lines (omega arith)) (c.loop.invariant list laid)

pub loop-bytes-preserved : goal.loop-bytes-preserved
loop-bytes-preserved c = λ list laid.
    laid_same c.args.lines c.args.info _ _ c.put-in-loop-bytes.new.slots.items
    (others_more list (Sent c.args.block.now.queue (header_packet c.args.block.now.header)) (replicate c.args.lines Empty)
    (λ bytes. Sent c.args.block.now.queue (rest_packet bytes)) c.args.block.now.rest.items c.deref-bytes-items.result.now
    c.loop-bytes.bytes-index [] c.deref-bytes-items.ensures.value c.loop-bytes-test.true)
    (c.in_ok-put-3.ensures _ (c.loop-bytes.invariant list laid))

pub returns : goal.returns
returns c = λ list laid.
    laid_same c.args.lines c.args.info _ _ c.loop-bytes.slots.items
    (others_end list (Sent c.args.block.now.queue (header_packet c.args.block.now.header)) (replicate c.args.lines Empty)
    (λ bytes. Sent c.args.block.now.queue (rest_packet bytes)) c.args.block.now.rest.items c.deref-bytes-items.result.now
    c.loop-bytes.bytes-index c.deref-bytes-items.ensures.value c.loop-bytes-test.false)
    (c.loop-bytes.invariant list laid)
