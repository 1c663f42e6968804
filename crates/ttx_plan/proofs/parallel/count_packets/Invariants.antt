use Rattle.std.proofs.Common.{◌≡◌, length}
use Rattle.ttx_plan.specs.Counting.{sum_to}
use Rattle.ttx_plan.specs.Cursors.{queue_at}
use Rattle.ttx_plan.proofs.parallel.count_packets.Given as goal

abbrev pub invariant-loop-queue : goal.invariant-loop-queue
invariant-loop-queue l = l.count ≡ sum_to l.queue (λ m. length (queue_at l.queues m))
