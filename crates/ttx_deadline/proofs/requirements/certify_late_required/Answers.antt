use Rattle.std.proofs.Common.{◌<◌, sym, subst, arith}
use Rattle.ttx_cycle.specs.Cycles.{slots_of, slots_of-IsCycle}
use Rattle.ttx_certificate.specs.Certificates.{fields_of, certificate_of}
use Rattle.ttx_late.specs.LateVerdicts.{IsLateVerdict, MeansLate}
use Rattle.ttx_source.specs.Services.{pages_of}
use Rattle.ttx_deadline.specs.LateRequirements.{MeansLateRequired}
use Rattle.ttx_deadline.proofs.ShownInTime.{few_slots, shown_means}
use Rattle.ttx_deadline.proofs.requirements.certify_late_required.Goals as goal

pub shown_verdict-requires : goal.shown_verdict-requires
shown_verdict-requires c =
    let cycle = slots_of c.args.cycle.now in
    let pages = pages_of c.args.service.now in
    let told = subst (IsLateVerdict cycle pages (certificate_of c.args.certificate.now)) c.in-Yes.is c.in_ok-gap.ensures.exact in
    record { few = few_slots c.followed_is_within.ensures cycle pages c.in-Yes.gap (slots_of-IsCycle c.args.cycle.now) told.1 told.2 }

pub returns-in-Yes-clause-means : goal.returns-in-Yes-clause-means
returns-in-Yes-clause-means c =
    let cycle = slots_of c.args.cycle.now in
    let service = c.args.service.now in
    let w = fields_of c.args.certificate.now in
    let lines = (c.certificates_keep_their_rules.ensures c.args.certificate.now).1.some_lines in
    let some : 0 < w.lines = omega (arith, lines) in
    let means = subst (MeansLate cycle (pages_of service) (certificate_of c.args.certificate.now)) c.in-Yes.is c.in_ok-gap.ensures.seen in
    subst (MeansLateRequired cycle service w c.args.required) (sym c.shown_verdict.ensures)
    (shown_means cycle service w c.in-Yes.gap c.args.required some means)
