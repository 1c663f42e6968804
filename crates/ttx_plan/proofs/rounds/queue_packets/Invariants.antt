use Rattle.std.proofs.Common.{◌≡◌, map, take, []}
use Rattle.std.specs.Prelude.{flat_map, false, ◌==◌, if◌then◌else◌}
use Rattle.ttx_plan.specs.Blocks.{packets_of}
use Rattle.ttx_plan.specs.Seen.{seen_sent}
use Rattle.ttx_plan.proofs.rounds.queue_packets.Given as goal

abbrev pub invariant-loop-block : goal.invariant-loop-block
invariant-loop-block l = l.packets.items ≡ flat_map (λ b. if b.queue == l.queue then packets_of false b else [])
    (map seen_sent (take l.block-index l.sent))
