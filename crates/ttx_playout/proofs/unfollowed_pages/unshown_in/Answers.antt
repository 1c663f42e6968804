use Rattle.std.proofs.Common.{◌≤◌, map, MatchOption, subst, arith}
use Rattle.std.proofs.lemmas.Int.{ints}
use Rattle.ttx_page.specs.Views.{page_of}
use Rattle.ttx_cycle.specs.Cycles.{slots_of}
use Rattle.ttx_late.specs.Followed.{AllAreFollowed, IsFirstUnshown}
use Rattle.ttx_late.proofs.LateVerdicts.{never_shown}
use Rattle.ttx_playout.proofs.unfollowed_pages.unshown_in.Goals as goal

pub returns-in-Some : goal.returns-in-Some
returns-in-Some c =
    let slots = slots_of c.args.cycle.now in
    let pages = c.args.pages.now in
    never_shown slots pages c.in-Some.unshown
    (subst (λ o. MatchOption o (AllAreFollowed slots (map page_of pages)) (IsFirstUnshown slots (map page_of pages))) c.in-Some.is
    c.first_unshown.ensures)
    c.index-pages-unshown.result c.index-pages-unshown.is c.id-page.result c.id-page.ensures

pub returns : goal.returns
returns c = λ n p listed h head.
    let f = c.greatest_gap-greatest.ensures.within n p listed h head in
    let near = f.1 in
    let test = c.if-greatest-gap.false in
    let le : c.greatest_gap-greatest.result ≤ c.args.gap = omega arith in
    (f.0, omega (arith, ints))
