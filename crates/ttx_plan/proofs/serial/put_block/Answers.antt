use Rattle.std.proofs.Common.{◌++◌, ◌∷◌, [], true}
use Rattle.ttx_plan.specs.declared.packet.Slot.TheVariants.{Sent}
use Rattle.ttx_plan.specs.Blocks.{time_filling_packet}
use Rattle.ttx_plan.specs.Seen.{seen}
use Rattle.ttx_plan.specs.Serial.{serial_page}
use Rattle.ttx_plan.proofs.LaidSlots.{laid_same, if_ok, led_list, unled_list}
use Rattle.ttx_plan.proofs.serial.put_block.Goals as goal
use Rattle.ttx_plan.proofs.serial.put_block.Goals.{then-sent+in_ok-put, else-sent}

pub returns : goal.returns
returns c =
    let queue = c.args.sent.now.block.now.queue in
    let page = serial_page c.args.lines (seen c.args.sent.now.block.now) in
    elim c.if-sent.branch [
      | then-sent+in_ok-put w ↦ if_ok c.put_page.result (λ x h list laid.
          laid_same c.args.lines c.args.info _ _ c.put_page.new.slots.items
          (led_list list queue c.args.sent.now.filler page w.if-sent.true)
          (h (list ++ Sent queue (time_filling_packet true queue) ∷ [])
          (rw (w.slots-is, ← w.time_filling.ensures) (w.in_ok-put.ensures list laid)))) c.put_page.ensures
      | else-sent w ↦ if_ok c.put_page.result (λ x h list laid.
          laid_same c.args.lines c.args.info _ _ c.put_page.new.slots.items
          (unled_list list queue c.args.sent.now.filler page w.if-sent.false)
          (h list (rw w.slots-is laid))) c.put_page.ensures
    ]
