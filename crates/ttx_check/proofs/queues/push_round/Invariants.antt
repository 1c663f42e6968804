use Rattle.std.proofs.Common.{◌≡◌, ◌++◌, drop}
use Rattle.ttx_check.specs.Queues.{round_from}
use Rattle.ttx_check.proofs.queues.push_round.Given as goal

abbrev pub invariant-loop-place : goal.invariant-loop-place
invariant-loop-place l = l.sent.items ++ round_from l.queue l.round l.place (drop l.place l.entries) ≡ l.initial.sent.items
    ++ round_from l.queue l.round 0 l.entries
