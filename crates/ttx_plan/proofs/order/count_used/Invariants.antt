use Rattle.std.proofs.Common.{◌≡◌, ◌≤◌, length, map}
use Rattle.ttx_plan.specs.Blocks.{used_to}
use Rattle.ttx_plan.specs.Seen.{seen_sent}
use Rattle.ttx_plan.proofs.order.count_used.Given as goal

abbrev pub invariant-loop-queue : goal.invariant-loop-queue
invariant-loop-queue l = record { count : l.count ≡ length (used_to (map seen_sent l.sent) l.queue); few : l.count ≤ l.queue }
