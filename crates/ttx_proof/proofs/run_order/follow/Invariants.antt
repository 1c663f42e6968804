use Rattle.std.proofs.Common.{◌-◌, ◌↔◌, drop}
use Rattle.ttx_proof.specs.Bridging.{AllFollow, FollowsAfter, counted}
use Rattle.ttx_proof.specs.NamedStarts.{stands_at_start}
use Rattle.ttx_proof.proofs.run_order.follow.Given as goal

abbrev pub invariant-loop-at : goal.invariant-loop-at
invariant-loop-at l = record {
  left : AllFollow l.limit (counted (stands_at_start l.starts) (l.repeat - 1) l.sent)
      ↔ FollowsAfter l.limit l.previous (counted (stands_at_start l.starts) (l.repeat - 1) (drop l.at l.sent));
}
