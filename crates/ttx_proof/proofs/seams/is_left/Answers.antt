use Rattle.std.proofs.Common.{◌≡◌, ◌-◌, negsuc, Some, None, get_or, sym, ap, ◌∙◌, subst}
use Rattle.ttx_cycle.specs.Cycles.{slots_of}
use Rattle.ttx_proof.specs.Seams.{TellsLatest}
use Rattle.ttx_proof.proofs.LatestHeaderBefore.{left_by, left_to_none}
use Rattle.ttx_proof.proofs.seams.is_left.Goals as goal

pub returns-in-Some : goal.returns-in-Some
returns-in-Some c =
    let page = c.args.page in
    let is = c.mag.ensures.ranges in
    let m : page.mag ≡ c.from.result = sym (c.from.ensures ∙ c.mag.ensures.value) in
    let at : get_or c.args.latest.now (page.mag - 1) None ≡ Some c.in-Some.back = ap (λ n. get_or c.args.latest.now (n - 1) None) m ∙ c.in-Some.is in
    let told = subst (TellsLatest (slots_of c.args.old.now) page.mag) at (c.requires page.mag is.mag_from is.mag_to) in
    left_by (slots_of c.args.old.now) page (negsuc c.in-Some.back) told.1 c.is_its_header.result c.is_its_header.ensures

pub returns-in-None : goal.returns-in-None
returns-in-None c =
    let page = c.args.page in
    let is = c.mag.ensures.ranges in
    let m : page.mag ≡ c.from.result = sym (c.from.ensures ∙ c.mag.ensures.value) in
    let at : get_or c.args.latest.now (page.mag - 1) None ≡ None = ap (λ n. get_or c.args.latest.now (n - 1) None) m ∙ c.in-None.is in
    left_to_none (slots_of c.args.old.now) page
    (subst (TellsLatest (slots_of c.args.old.now) page.mag) at (c.requires page.mag is.mag_from is.mag_to))
