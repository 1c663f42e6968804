use Rattle.std.proofs.Common.{subst}
use Rattle.std.proofs.lemmas.Result.{IfOk-weaker}
use Rattle.ttx_cycle.specs.Cycles.{slots_of, slots_of-IsCycle}
use Rattle.ttx_certificate.specs.Certificates.{certificate_of}
use Rattle.ttx_source.specs.Services.{pages_of}
use Rattle.ttx_certify.specs.Laws.{ArePages}
use Rattle.ttx_certify.proofs.PageByPage.{are_pages}
use Rattle.ttx_certify.specs.Verdicts.{IsVerdict}
use Rattle.ttx_rows.specs.RowVerdicts.{MeansByRows}
use Rattle.ttx_rows.proofs.Seen as L
use Rattle.ttx_rows.proofs.acceptance.certify_by_rows.Goals as goal

pub returns-clause-rows : goal.returns-clause-rows
returns-clause-rows c =
    let cycle = slots_of c.args.cycle.now in
    let pages = pages_of c.args.service.now in
    let w = certificate_of c.args.certificate.now in
    IfOk-weaker c.certify_service.result (IsVerdict cycle pages w) (MeansByRows cycle pages w)
    (L.means_by_rows c.accepted_is_seen_by_rows.ensures cycle pages w (slots_of-IsCycle c.args.cycle.now)
    (subst ArePages c.pages-pages.ensures.value (are_pages c.pages_keep_their_rules.ensures c.pages-pages.result.now))
    (c.certificates_keep_their_rules.ensures c.args.certificate.now).1)
    c.certify_service.ensures.exact
