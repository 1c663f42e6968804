use Rattle.std.proofs.Common.{IfOk, subst}
use Rattle.ttx_cycle.specs.Cycles.{slots_of}
use Rattle.ttx_source.specs.Services.{pages_of}
use Rattle.ttx_certificate.specs.Certificates.{certificate_of}
use Rattle.ttx_witness.specs.search.Finding.{IsFoundFor}
use Rattle.ttx_certify.proofs.AuthoredIds.{distinct_ids}
use Rattle.ttx_certify.proofs.certified_services.find_service.Goals as goal

pub find_for-requires-clause-distinct : goal.find_for-requires-clause-distinct
find_for-requires-clause-distinct c = distinct_ids c.pages.result.now c.args.service.now.pages c.pages.ensures.value c.pages.ensures.ranges.distinct

pub returns : goal.returns
returns c =
    let cycle = slots_of c.args.cycle.now in
    subst (λ lines. IfOk c.find_for.result (λ found. IsFoundFor cycle (pages_of c.args.service.now) c.args.repeat lines c.args.class
    (certificate_of found.certificate) found.deadline)) c.lines.ensures.value
    (subst (λ pages. IfOk c.find_for.result (λ found. IsFoundFor cycle pages c.args.repeat c.lines.result c.args.class
    (certificate_of found.certificate) found.deadline)) c.pages.ensures.value c.find_for.ensures)
