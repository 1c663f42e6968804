use Rattle.ttx_page.specs.Streams.{repeated}
use Rattle.ttx_late.proofs.FollowersOfCycles.{NoneBefore}
use Rattle.ttx_late.proofs.followers.follower.Given as goal

abbrev pub invariant-loop-distance : goal.invariant-loop-distance
invariant-loop-distance l = record { none : NoneBefore (repeated l.slots) l.page.mag l.at l.distance }
