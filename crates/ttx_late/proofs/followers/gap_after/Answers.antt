use Rattle.std.proofs.Common.{◌≡◌, refl, sym, subst}
use Rattle.ttx_page.specs.Streams.{repeated}
use Rattle.ttx_page.specs.Followers.{IsFollowedWithin}
use Rattle.ttx_late.specs.Followed.{IsGap}
use Rattle.ttx_late.proofs.FollowersOfCycles.{near_within}
use Rattle.ttx_late.proofs.GreatestGap.{reach}
use Rattle.ttx_late.proofs.followers.gap_after.Goals as goal

pub loop-at-preserved : goal.loop-at-preserved
loop-at-preserved c = reach (repeated c.slots-slots.result.now) (λ id. id ≡ c.args.page) c.loop-at.at c.loop-at.gap c.in-Some.more
    c.loop-at.invariant c.in-Some.ensures

pub returns : goal.returns
returns c =
    let slots = c.slots-slots.result.now in
    subst (λ s. IsGap (repeated s) c.args.page c.loop-at.gap) c.slots-slots.ensures.slots (record {
      within = near_within c.each_slot_turns.ensures c.streams_move.ensures slots c.slots-slots.ensures.cycle.some c.args.page c.loop-at.gap
          c.loop-at.at c.loop-at-test.false (λ i lt head. c.loop-at.invariant.near i lt c.args.page refl head);
      least = λ other within. c.loop-at.invariant.least other (λ x e. subst (λ y. IsFollowedWithin (repeated slots) y other) (sym e) within);
    })
