use Rattle.std.proofs.Common.{IfOk, subst}
use Rattle.ttx_cycle.specs.Cycles.{slots_of}
use Rattle.ttx_certificate.specs.Certificates.{certificate_of}
use Rattle.ttx_certify.specs.AllReasons.{AreReasons}
use Rattle.ttx_certify.specs.Verdicts.{IsVerdict, Means}
use Rattle.ttx_certify.proofs.AuthoredIds.{distinct_ids}
use Rattle.ttx_certify.proofs.certified_services.certify_all_of_service.Goals as goal

pub certify_all-requires : goal.certify_all-requires
certify_all-requires c = record {
  distinct = distinct_ids c.pages.result.now c.args.service.now.pages c.pages.ensures.value
      c.pages.ensures.ranges.distinct;
}

pub returns-clause-exact : goal.returns-clause-exact
returns-clause-exact c =
    subst (λ ps. IfOk c.certify_all.result (λ all. IsVerdict (slots_of c.args.cycle.now) ps (certificate_of c.args.certificate.now) all.verdict))
    c.pages.ensures.value c.certify_all.ensures.exact

pub returns-clause-seen : goal.returns-clause-seen
returns-clause-seen c =
    subst (λ ps. IfOk c.certify_all.result (λ all. Means (slots_of c.args.cycle.now) ps (certificate_of c.args.certificate.now) all.verdict))
    c.pages.ensures.value c.certify_all.ensures.seen

pub returns-clause-reasons : goal.returns-clause-reasons
returns-clause-reasons c =
    subst (λ ps. IfOk c.certify_all.result (λ all. AreReasons (slots_of c.args.cycle.now) ps (certificate_of c.args.certificate.now)
    all.pages.items)) c.pages.ensures.value c.certify_all.ensures.reasons
