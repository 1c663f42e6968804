use Rattle.std.proofs.Common.{map, refl, subst}
use Rattle.ttx_page.specs.Streams.{repeated}
use Rattle.ttx_page.specs.Followers.{IsFollowedWithin}
use Rattle.ttx_page.specs.Views.{page_of}
use Rattle.ttx_late.specs.Followed.{IsListed, IsGreatestGap}
use Rattle.ttx_late.proofs.FollowersOfCycles.{near_within}
use Rattle.ttx_late.proofs.GreatestGap.{reach}
use Rattle.ttx_late.proofs.followers.greatest_gap.Goals as goal

pub loop-at-preserved : goal.loop-at-preserved
loop-at-preserved c = reach (repeated c.slots-slots.result.now) (IsListed (map page_of c.args.pages.now)) c.loop-at.at c.loop-at.gap
    c.widened-gap.result c.loop-at.invariant c.widened-gap.ensures

pub returns : goal.returns
returns c =
    let slots = c.slots-slots.result.now in
    subst (λ s. IsGreatestGap s (map page_of c.args.pages.now) c.loop-at.gap) c.slots-slots.ensures.slots (record {
      within = λ n p listed. near_within c.each_slot_turns.ensures c.streams_move.ensures slots c.slots-slots.ensures.cycle.some p.id c.loop-at.gap
          c.loop-at.at c.loop-at-test.false
          (λ i lt head. c.loop-at.invariant.near i lt p.id (record { index = n; page = p; listed = listed; is = refl }) head);
      least = λ other within. c.loop-at.invariant.least other
          (λ page l. subst (λ x. IsFollowedWithin (repeated slots) x other) l.is (within l.index l.page l.listed));
    })
