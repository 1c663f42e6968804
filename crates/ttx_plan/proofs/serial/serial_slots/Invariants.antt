use Rattle.std.proofs.Common.{◌++◌, map, take, true}
use Rattle.std.specs.Prelude.{flat_map}
use Rattle.ttx_plan.specs.declared.packet.Slot.TheVariants.{Sent}
use Rattle.ttx_plan.specs.Blocks.{used_to, time_filling_packet}
use Rattle.ttx_plan.specs.Seen.{seen_sent}
use Rattle.ttx_plan.specs.Serial.{IsLaid, serial_block}
use Rattle.ttx_plan.proofs.serial.serial_slots.Given as goal

abbrev pub invariant-loop-block : goal.invariant-loop-block
invariant-loop-block l = IsLaid l.lines l.info (flat_map (serial_block l.lines) (map seen_sent (take l.block-index l.sent))) l.slots.items

abbrev pub invariant-loop-queue : goal.invariant-loop-queue
invariant-loop-queue l = IsLaid l.lines l.info
    (flat_map (serial_block l.lines) (map seen_sent l.sent)
    ++ map (λ queue. Sent queue (time_filling_packet true queue)) (used_to (map seen_sent l.sent) l.queue)) l.slots.items
