use Rattle.std.proofs.Common.{◌≡◌}
use Rattle.ttx_check.specs.Queues.{first_rounds}
use Rattle.ttx_check.proofs.queues.whole_queue.Given as goal

abbrev pub invariant-loop-round : goal.invariant-loop-round
invariant-loop-round l = l.sent.items ≡ first_rounds l.queue l.entries l.round
