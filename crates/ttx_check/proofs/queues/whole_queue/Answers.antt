use Rattle.std.proofs.Common.{◌≡◌, ◌∙◌, ◌+◌, ◌++◌, suc, ap, arith}
use Rattle.ttx_check.specs.Queues.{first_rounds, round_from}
use Rattle.ttx_check.proofs.queues.whole_queue.Goals as goal

pub loop-round-preserved : goal.loop-round-preserved
loop-round-preserved c =
    let round = c.loop-round.round in
    let next : suc round ≡ round + 1 = omega arith in
    c.in_ok-push_round.ensures
    ∙ ap (λ sent. sent ++ round_from c.args.queue round 0 c.args.entries.now) c.loop-round.invariant
    ∙ ap (first_rounds c.args.queue c.args.entries.now) next
