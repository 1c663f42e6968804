use Rattle.std.proofs.Common.{◌≡◌, map}
use Rattle.ttx_plan.specs.Blocks.{queues_to}
use Rattle.ttx_plan.specs.Cursors.{lists_of}
use Rattle.ttx_plan.specs.Seen.{seen_sent}
use Rattle.ttx_plan.proofs.rounds.queues.Given as goal

abbrev pub invariant-loop-queue : goal.invariant-loop-queue
invariant-loop-queue l = lists_of l.queues.items ≡ queues_to (map seen_sent l.sent) l.queue
