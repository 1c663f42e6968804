use Rattle.std.proofs.Common.{◌≡◌}
use Rattle.ttx_check.specs.Queues.{followers_to}
use Rattle.ttx_check.proofs.queues.followers.Given as goal

abbrev pub invariant-loop-above : goal.invariant-loop-above
invariant-loop-above l = l.places.items ≡ followers_to l.kind l.entries l.above
