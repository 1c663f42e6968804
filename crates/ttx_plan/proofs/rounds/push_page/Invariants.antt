use Rattle.std.proofs.Common.{◌≡◌, ◌++◌, ◌∷◌, map, take}
use Rattle.ttx_plan.specs.Blocks.{header_packet, rest_packet}
use Rattle.ttx_plan.proofs.rounds.push_page.Given as goal

abbrev pub invariant-loop-bytes : goal.invariant-loop-bytes
invariant-loop-bytes l = l.packets.items ≡ l.fn.packets.items ++ header_packet l.block.header
    ∷ map rest_packet (take l.bytes-index l.block.rest.items)
