use Rattle.std.proofs.Common.{IfOk, subst}
use Rattle.ttx_cycle.specs.Cycles.{slots_of}
use Rattle.ttx_certificate.specs.Certificates.{certificate_of}
use Rattle.ttx_certify.specs.Verdicts.{IsVerdict, Means}
use Rattle.ttx_certify.proofs.AuthoredIds.{distinct_ids}
use Rattle.ttx_certify.proofs.certified_services.certify_service.Goals as goal

pub certify-requires : goal.certify-requires
certify-requires c = record {
  distinct = distinct_ids c.pages.result.now c.args.service.now.pages c.pages.ensures.value
      c.pages.ensures.ranges.distinct;
}

pub returns-clause-exact : goal.returns-clause-exact
returns-clause-exact c =
    subst (λ ps. IfOk c.certify.result (IsVerdict (slots_of c.args.cycle.now) ps (certificate_of c.args.certificate.now)))
    c.pages.ensures.value c.certify.ensures.exact

pub returns-clause-seen : goal.returns-clause-seen
returns-clause-seen c =
    subst (λ ps. IfOk c.certify.result (Means (slots_of c.args.cycle.now) ps (certificate_of c.args.certificate.now)))
    c.pages.ensures.value c.certify.ensures.seen
