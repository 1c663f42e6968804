use Rattle.std.proofs.Common.{MatchOption, map, subst}
use Rattle.ttx_cycle.specs.Cycles.{slots_of}
use Rattle.ttx_page.specs.Views.{page_of}
use Rattle.ttx_late.specs.Followed.{AllAreFollowed, IsFirstUnshown}
use Rattle.ttx_late.proofs.LateVerdicts.{never_shown}
use Rattle.ttx_late.proofs.acceptance.followed_verdict.Goals as goal

pub returns-in-Some : goal.returns-in-Some
returns-in-Some c =
    let slots = slots_of c.args.cycle.now in
    let pages = c.args.pages.now in
    never_shown slots pages c.in-Some.unshown
    (subst (λ o. MatchOption o (AllAreFollowed slots (map page_of pages)) (IsFirstUnshown slots (map page_of pages))) c.in-Some.is
    c.first_unshown.ensures)
    c.index-pages-unshown.result c.index-pages-unshown.is c.id.result c.id.ensures
