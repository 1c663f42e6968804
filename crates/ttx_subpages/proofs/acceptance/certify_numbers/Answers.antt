use Rattle.std.proofs.Common.{map, subst, sym}
use Rattle.ttx_cycle.specs.Cycles.{slots_of, slots_of-IsCycle}
use Rattle.ttx_page.specs.Views.{page_of}
use Rattle.ttx_certificate.specs.Certificates.{certificate_of}
use Rattle.ttx_source.specs.Services.{pages_of}
use Rattle.ttx_certify.specs.Laws.{ArePages}
use Rattle.ttx_certify.proofs.AuthoredIds.{distinct_ids}
use Rattle.ttx_certify.proofs.PageByPage.{are_pages}
use Rattle.ttx_late.specs.LateVerdicts.{IsLateVerdict}
use Rattle.ttx_subpages.specs.NumbersVerdicts.{IsNumbersVerdict, MeansNumbers}
use Rattle.ttx_subpages.proofs.NumbersVerdicts.{lack_is, exact_with, means_with}
use Rattle.ttx_subpages.proofs.acceptance.certify_numbers.Goals as goal

pub lack_in-requires : goal.lack_in-requires
lack_in-requires c = record {
  distinct = distinct_ids c.pages.result.now c.args.service.now.pages c.pages.ensures.value c.pages.ensures.ranges.distinct;
}

pub returns-clause-exact : goal.returns-clause-exact
returns-clause-exact c =
    let cycle = slots_of c.args.cycle.now in
    let pages = pages_of c.args.service.now in
    let w = certificate_of c.args.certificate.now in
    let told = subst (IsLateVerdict cycle pages w) c.in-Yes.is c.in_ok-verdict.ensures.exact in
    subst (IsNumbersVerdict cycle pages w) (sym c.verdict_with.ensures) (exact_with cycle pages w c.in-Yes.gap told c.in_ok-lack.lack
    (lack_is cycle w c.in_ok-lack.lack (map page_of c.pages.result.now) pages c.lines.result c.pages.ensures.value c.lines.ensures
    c.in_ok-lack.ensures))

pub returns-clause-seen : goal.returns-clause-seen
returns-clause-seen c =
    let cycle = slots_of c.args.cycle.now in
    let pages = pages_of c.args.service.now in
    let w = certificate_of c.args.certificate.now in
    let told = subst (IsLateVerdict cycle pages w) c.in-Yes.is c.in_ok-verdict.ensures.exact in
    subst (MeansNumbers cycle pages w) (sym c.verdict_with.ensures)
    (means_with cycle pages w c.in-Yes.gap told c.accepted_are_seen.ensures c.accepted_are_seen_again.ensures c.stays_are_shown.ensures c.accepted_are_held.ensures
    (slots_of-IsCycle c.args.cycle.now)
    (subst ArePages c.pages.ensures.value (are_pages c.pages_keep_their_rules.ensures c.pages.result.now))
    (c.certificates_keep_their_rules.ensures c.args.certificate.now).1 c.in_ok-lack.lack
    (lack_is cycle w c.in_ok-lack.lack (map page_of c.pages.result.now) pages c.lines.result c.pages.ensures.value c.lines.ensures
    c.in_ok-lack.ensures))
