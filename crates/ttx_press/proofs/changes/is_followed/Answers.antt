use Rattle.std.proofs.Common.{sym, subst}
use Rattle.std.proofs.lemmas.Bool.{both_ways}
use Rattle.ttx_late.specs.Followed.{AreFollowedWithin}
use Rattle.ttx_playout.specs.LateSchedules.{AllAreFollowedAcross}
use Rattle.ttx_playout.specs.LateChanges.{IsFirstUnfollowed}
use Rattle.ttx_playout.specs.Takeovers.{edition_of}
use Rattle.ttx_press.proofs.Decisions.{says_yes, says_no}
use Rattle.ttx_press.proofs.changes.is_followed.Goals as goal

pub returns-then-not-are_followed : goal.returns-then-not-are_followed
returns-then-not-are_followed c =
    let new = edition_of c.args.next.now in
    says_no (λ followed. both_ways _ c.if-not-are_followed.true
    (c.are_followed.ensures.1 (subst (λ ps. AreFollowedWithin new.cycle ps c.args.gap) (sym c.pages.ensures.value) followed.0)))

pub returns-in-Some : goal.returns-in-Some
returns-in-Some c =
    let old = edition_of c.args.on_air.now in
    let new = edition_of c.args.next.now in
    let page = c.in-Some.field-0 in
    let first = subst (λ ps. IsFirstUnfollowed old.cycle new.cycle ps c.args.gap page) c.pages-2.ensures.value c.in-Some.ensures in
    says_no (λ followed. first.here (followed.1 first.index first.first first.listed))

pub returns-in-None : goal.returns-in-None
returns-in-None c =
    let old = edition_of c.args.on_air.now in
    let new = edition_of c.args.next.now in
    says_yes (
      subst (λ ps. AreFollowedWithin new.cycle ps c.args.gap) c.pages.ensures.value (c.are_followed.ensures.0 c.if-not-are_followed.false),
      subst (λ ps. AllAreFollowedAcross old.cycle new.cycle ps c.args.gap) c.pages-2.ensures.value c.in-None.ensures,
    )
