use Rattle.std.proofs.Common.{◌≤◌, map, MatchOption, subst, arith}
use Rattle.std.proofs.lemmas.Int.{ints}
use Rattle.ttx_page.specs.Views.{page_of}
use Rattle.ttx_cycle.specs.Cycles.{slots_of}
use Rattle.ttx_late.specs.Followed.{AllAreFollowed, AreFollowedWithin, IsFirstUnshown}
use Rattle.ttx_late.specs.LateVerdicts.{IsNeverShown}
use Rattle.ttx_late.proofs.LateVerdicts.{never_shown}
use Rattle.ttx_air.proofs.verdicts.unserved.Goals as goal

pub returns-in-Some : goal.returns-in-Some
returns-in-Some c =
    let slots = slots_of c.args.edition.now.cycle in
    let pages = c.pages-pages.result.now in
    subst (λ ps. IsNeverShown slots ps c.id-page.result c.in-Some.unshown.slot) c.pages-pages.ensures.value
    (never_shown slots pages c.in-Some.unshown
    (subst (λ o. MatchOption o (AllAreFollowed slots (map page_of pages)) (IsFirstUnshown slots (map page_of pages))) c.in-Some.is
    c.first_unshown.ensures)
    c.index-pages-unshown.result c.index-pages-unshown.is c.id-page.result c.id-page.ensures)

pub returns : goal.returns
returns c =
    let slots = slots_of c.args.edition.now.cycle in
    let within : AreFollowedWithin slots (map page_of c.pages-pages.result.now) c.args.gap = λ n p listed h head.
    let f = c.greatest_gap-greatest.ensures.within n p listed h head in
    let near = f.1 in
    let test = c.if-greatest-gap.false in
    let le : c.greatest_gap-greatest.result ≤ c.args.gap = omega arith in
    (f.0, omega (arith, ints))
    in
    subst (λ ps. AreFollowedWithin slots ps c.args.gap) c.pages-pages.ensures.value within
