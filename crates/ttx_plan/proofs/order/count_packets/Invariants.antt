use Rattle.std.proofs.Common.{◌≡◌, ◌*◌, ◌≤◌, map, take}
use Rattle.ttx_plan.specs.Blocks.{packets_in}
use Rattle.ttx_plan.specs.Seen.{seen_sent}
use Rattle.ttx_plan.proofs.order.count_packets.Given as goal

abbrev pub invariant-loop-block : goal.invariant-loop-block
invariant-loop-block l = record {
  packets : l.packets ≡ packets_in (map seen_sent (take l.block-index l.sent));
  few : l.packets ≤ 27 * l.block-index;
}
