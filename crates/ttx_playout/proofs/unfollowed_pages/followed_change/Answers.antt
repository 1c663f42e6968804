use Rattle.std.proofs.Common.{subst}
use Rattle.ttx_cycle.specs.Cycles.{slots_of}
use Rattle.ttx_late.specs.Followed.{AreFollowedWithin}
use Rattle.ttx_playout.specs.LateSchedules.{AllAreFollowedAcross}
use Rattle.ttx_playout.specs.LateChanges.{IsFirstUnfollowed}
use Rattle.ttx_playout.proofs.unfollowed_pages.followed_change.Goals as goal

pub returns-in-Some-first_unfollowed : goal.returns-in-Some-first_unfollowed
returns-in-Some-first_unfollowed c =
    let old = slots_of c.args.old.now.cycle in
    let new = slots_of c.args.new.now.cycle in
    let gap = c.args.gap in (
      subst (λ ps. AreFollowedWithin new ps gap) c.pages.ensures.value c.in_default.ensures,
      subst (λ ps. IsFirstUnfollowed old new ps gap c.in-Some-first_unfollowed.page) c.pages-2.ensures.value c.in-Some-first_unfollowed.ensures,
    )

pub returns-in-None : goal.returns-in-None
returns-in-None c =
    let old = slots_of c.args.old.now.cycle in
    let new = slots_of c.args.new.now.cycle in
    let gap = c.args.gap in (
      subst (λ ps. AreFollowedWithin new ps gap) c.pages.ensures.value c.in_default.ensures,
      subst (λ ps. AllAreFollowedAcross old new ps gap) c.pages-2.ensures.value c.in-None.ensures,
    )
