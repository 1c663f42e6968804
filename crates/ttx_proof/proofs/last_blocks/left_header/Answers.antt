use Rattle.std.proofs.Common.{◌≡◌, ◌-◌, negsuc, Some, None, get_or, sym, ap, ◌∙◌, subst}
use Rattle.std.proofs.lemmas.Bool.{both_ways}
use Rattle.ttx_cycle.specs.Cycles.{slots_of}
use Rattle.ttx_proof.specs.Seams.{TellsLatest}
use Rattle.ttx_proof.proofs.LatestHeaderBefore.{left_by}
use Rattle.ttx_proof.proofs.last_blocks.left_header.Goals as goal

pub returns-else-is_its_header : goal.returns-else-is_its_header
returns-else-is_its_header c = λ left.
    let page = c.args.page in
    let is = c.mag.ensures.ranges in
    let m : page.mag ≡ c.from.result = sym (c.from.ensures ∙ c.mag.ensures.value) in
    let at : get_or c.args.latest.now (page.mag - 1) None ≡ Some c.in_ok-back.back =
    ap (λ n. get_or c.args.latest.now (n - 1) None) m ∙ c.in_ok-back.was in
    let told = subst (TellsLatest (slots_of c.args.old.now) page.mag) at (c.requires page.mag is.mag_from is.mag_to) in
    let decides = left_by (slots_of c.args.old.now) page (negsuc c.in_ok-back.back) told.1 c.is_its_header.result c.is_its_header.ensures in
    both_ways _ c.if-is_its_header.false (decides.1 left)
