use Rattle.ttx_page.specs.Streams.{repeated}
use Rattle.ttx_late.proofs.FollowersOfCycles.{no_header, followed_tells, unfollowed_tells}
use Rattle.ttx_late.proofs.followers.unfollowed_at.Goals as goal

pub returns-in-Some-follower : goal.returns-in-Some-follower
returns-in-Some-follower c = followed_tells (repeated c.args.slots.now) c.args.at c.in-Some.page (cc) c.in-Some-follower.ensures.0

pub returns-in-None-follower : goal.returns-in-None-follower
returns-in-None-follower c = unfollowed_tells (repeated c.args.slots.now) c.args.at c.in-Some.page (cc) c.in-None-follower.ensures

pub returns-in-None : goal.returns-in-None
returns-in-None c = λ page head. absurd (no_header (repeated c.args.slots.now) c.args.at (cc) page head)
