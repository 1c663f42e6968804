use Rattle.std.proofs.Common.{subst}
use Rattle.ttx_certificate.specs.Certificates.{fields_of}
use Rattle.ttx_cycle.specs.Cycles.{slots_of}
use Rattle.ttx_deadline.specs.Deadlines.{IsFoundWith}
use Rattle.ttx_source.specs.Services.{pages_of}
use Rattle.ttx_press.specs.Houses.{asked_of}
use Rattle.ttx_press.specs.Refusals.{IsSlowness, IsTooSlow}
use Rattle.ttx_press.proofs.SaidWords.{says_as}
use Rattle.ttx_press.proofs.certificates.certified.Goals as goal

pub returns-in-No-clause-refused : goal.returns-in-No-clause-refused
returns-in-No-clause-refused c =
    let cycle = slots_of c.args.planned.now.cycle in
    let service = c.args.planned.now.service in
    let w = fields_of c.in-Ok.found.certificate in
    let asked = subst (λ a. IsFoundWith cycle (pages_of service) service.lines a w c.in-Ok.found.verdict) c.asked_of.ensures c.in-Ok.ensures in
    let found = subst (λ v. IsFoundWith cycle (pages_of service) service.lines (asked_of c.args.house) w v) c.in-No.is asked in
    says_as (IsSlowness c.args.house.repeat c.args.house.deadline cycle service) (IsTooSlow c.args.house cycle service) c.refused_slow.result
    (λ words slow. record { w = w; reason = c.in-No.field-0; found = found; slow = slow }) c.refused_slow.ensures
