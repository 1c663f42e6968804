use Rattle.std.proofs.Common.{ap, ◌≡◌}
use Rattle.ttx_cycle.specs.Cycles.{slots_of}
use Rattle.ttx_source.specs.Services.{pages_of}
use Rattle.ttx_certificate.specs.Entries.{certificate_at}
use Rattle.ttx_certificate.specs.Certificates.{certificate_of}
use Rattle.ttx_deadline.proofs.LaterDeadlines.{exactly_enough}
use Rattle.ttx_deadline.proofs.asked_deadlines.with_found.Goals as goal

pub returns : goal.returns
returns c given =
    let found = certificate_of c.args.found.now.certificate in
    let least = c.args.found.now.deadline in
    let same = ap certificate_at c.in_ok-certificate.ensures in
    let rules = c.certificates_keep_their_rules.ensures c.args.found.now.certificate in
    let other = c.certificates_keep_their_rules.ensures c.in_ok-certificate.certificate in
    let exact = exactly_enough (slots_of c.args.cycle.now) (pages_of c.args.service.now) found (certificate_of c.in_ok-certificate.certificate)
    least c.args.asked.deadline c.in_ok-verdict.verdict rules.1 c.requires.some_fields c.requires.few_fields
    given.least same c.in_ok-verdict.ensures.exact in (
      record {
        found = found;
        least = least;
        is = given;
        fields = other.0;
        ranges = other.1;
        same = same;
        exact = exact;
        certified = c.in_ok-verdict.ensures.exact;
        seen = c.in_ok-verdict.ensures.seen;
      },
      exact.1,
    )
