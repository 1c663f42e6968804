use Rattle.std.proofs.Common.{◌≡◌, ◌++◌, drop}
use Rattle.ttx_check.specs.Queues.{filler, followers}
use Rattle.ttx_check.proofs.queues.push_followers.Given as goal

abbrev pub invariant-loop-sent : goal.invariant-loop-sent
invariant-loop-sent l = l.places.items ++ followers l.kind l.before (drop l.sent-index l.queue) ≡ l.initial.places.items
    ++ followers l.kind filler l.queue
