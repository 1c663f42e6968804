use Rattle.std.proofs.Common.{IfOk, subst}
use Rattle.ttx_certify.specs.Verdicts.{IsVerdict}
use Rattle.ttx_certify.proofs.AuthoredIds.{distinct_ids}
use Rattle.ttx_cycle.specs.Cycles.{slots_of}
use Rattle.ttx_certificate.specs.Certificates.{certificate_of}
use Rattle.ttx_playout.proofs.on_air.certified.Goals as goal

pub certify-requires : goal.certify-requires
certify-requires c = record { distinct = distinct_ids c.pages.result.now c.args.edition.now.service.pages c.pages.ensures.value c.pages.ensures.ranges.distinct }

pub returns : goal.returns
returns c = subst (λ ps. IfOk c.certify.result (IsVerdict (slots_of c.args.edition.now.cycle) ps (certificate_of c.args.edition.now.certificate)))
    c.pages.ensures.value c.certify.ensures.exact
