use Rattle.std.proofs.Common.{◌+◌, ◌<ℤ◌, pos, arith}
use Rattle.std.proofs.lemmas.Int.{ints}
use Rattle.ttx_page.specs.Streams.{repeated}
use Rattle.ttx_late.proofs.UnderHeaders.{none_more}
use Rattle.ttx_late.proofs.FollowersOfCycles.{told, told_not, never}
use Rattle.ttx_late.proofs.followers.follower.Goals as goal

pub returns-then-heads_another : goal.returns-then-heads_another
returns-then-heads_another c = told (repeated c.args.slots.now) c.args.page c.args.at c.loop-distance.distance c.requires.here
    c.loop-distance.auto.distance c.loop-distance.invariant.none (cc) (cc)

pub returns-then-heads : goal.returns-then-heads
returns-then-heads c = told_not (repeated c.args.slots.now) c.args.page c.args.at c.loop-distance.distance c.requires.here
    c.loop-distance.auto.distance c.loop-distance.invariant.none (cc) (cc)

pub loop-distance-preserved : goal.loop-distance-preserved
loop-distance-preserved c = record {
  none = none_more (repeated c.args.slots.now) c.args.page.mag (λ i. pos c.args.at <ℤ i) (pos (c.args.at + c.loop-distance.distance))
      (pos (c.args.at + (c.loop-distance.distance + 1))) (omega (arith, ints)) c.loop-distance.invariant.none (cc);
}

pub returns : goal.returns
returns c = absurd (never c.cycles_repeat.ensures c.args.slots.now c.args.page c.args.at c.loop-distance.distance (omega arith) c.requires.here
    (omega arith) c.loop-distance.invariant.none)
