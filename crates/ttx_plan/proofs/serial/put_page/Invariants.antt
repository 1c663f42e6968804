use Rattle.std.proofs.Common.{◌++◌, ◌∷◌, List, map, replicate, take}
use Rattle.ttx_plan.specs.declared.packet.Slot.{Slot}
use Rattle.ttx_plan.specs.declared.packet.Slot.TheVariants.{Empty, Sent}
use Rattle.ttx_plan.specs.Blocks.{header_packet, rest_packet}
use Rattle.ttx_plan.specs.Serial.{IsLaid}
use Rattle.ttx_plan.proofs.serial.put_page.Given as goal

abbrev pub invariant-loop : goal.invariant-loop
invariant-loop l = (list : List Slot) → IsLaid l.lines l.info list l.fn.slots.items →
    IsLaid l.lines l.info (list ++ (Sent l.block.queue (header_packet l.block.header) ∷ replicate l.counter Empty)) l.slots.items

abbrev pub invariant-loop-bytes : goal.invariant-loop-bytes
invariant-loop-bytes l = (list : List Slot) → IsLaid l.lines l.info list l.fn.slots.items →
    IsLaid l.lines l.info (list ++
    (Sent l.block.queue (header_packet l.block.header)
    ∷ (replicate l.lines Empty ++ map (λ bytes. Sent l.block.queue (rest_packet bytes))
    (take l.bytes-index l.block.rest.items)))) l.slots.items
