use Rattle.std.proofs.Common.{map, subst}
use Rattle.ttx_page.specs.Views.{page_of}
use Rattle.ttx_late.specs.Followed.{AllAreFollowed}
use Rattle.ttx_late.proofs.FollowersOfCycles.{all_followed}
use Rattle.ttx_late.proofs.followers.first_unshown.Goals as goal

pub returns : goal.returns
returns c =
    let pages = map page_of c.args.pages.now in
    subst (λ s. AllAreFollowed s pages) c.slots-slots.ensures.slots
    (all_followed c.each_slot_turns.ensures c.streams_move.ensures c.slots-slots.result.now c.slots-slots.ensures.cycle.some pages c.loop-at.at
    c.loop-at-test.false c.loop-at.invariant.before)
