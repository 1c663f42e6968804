use Rattle.std.proofs.Common.{subst}
use Rattle.ttx_cycle.specs.Cycles.{slots_of, slots_of-IsCycle}
use Rattle.ttx_certificate.specs.Certificates.{certificate_of}
use Rattle.ttx_source.specs.Services.{pages_of}
use Rattle.ttx_certify.specs.Laws.{ArePages}
use Rattle.ttx_certify.specs.Verdicts.{IsVerdict, Means}
use Rattle.ttx_late.specs.LateVerdicts.{IsFollowedVerdict}
use Rattle.ttx_certify.proofs.PageByPage.{are_pages}
use Rattle.ttx_late.proofs.LateVerdicts.{late_means}
use Rattle.ttx_late.proofs.acceptance.certify_late.Goals as goal

pub returns-in-Yes-clause-seen : goal.returns-in-Yes-clause-seen
returns-in-Yes-clause-seen c =
    let cycle = slots_of c.args.cycle.now in
    let pages = pages_of c.args.service.now in
    let w = certificate_of c.args.certificate.now in
    let same = c.pages-pages.ensures.value in
    let told = c.in_ok-certify_service.ensures in
    late_means cycle pages w (subst (IsVerdict cycle pages w) c.in-Yes.is told.exact) c.accepted_is_shown.ensures (slots_of-IsCycle c.args.cycle.now)
    (subst ArePages same (are_pages c.pages_keep_their_rules.ensures c.pages-pages.result.now))
    (c.certificates_keep_their_rules.ensures c.args.certificate.now).1
    (subst (Means cycle pages w) c.in-Yes.is told.seen) c.followed_verdict.result
    (subst (λ ps. IsFollowedVerdict cycle ps c.followed_verdict.result) same c.followed_verdict.ensures)
