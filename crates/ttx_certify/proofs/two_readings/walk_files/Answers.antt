use Rattle.std.proofs.Common.{subst, ◌∙◌}
use Rattle.ttx_certificate.specs.Certificates.{certificate_of}
use Rattle.ttx_cycle.specs.Counters.{inner_of}
use Rattle.ttx_source.specs.Services.{pages_of}
use Rattle.ttx_certify.specs.Verdicts.{Means}
use Rattle.ttx_certify.specs.Walking.{IsWalkVerdict, TookFirst, TookSecond}
use Rattle.ttx_certify.specs.walks.Passing.{second_pages}
use Rattle.ttx_certify.proofs.AuthoredIds.{distinct_ids}
use Rattle.ttx_certify.proofs.TwoFiles.{twice_walked}
use Rattle.ttx_certify.proofs.two_readings.walk_files.Goals as goal

pub new-requires : goal.new-requires
new-requires g c = record {
  distinct = distinct_ids c.pages.result.now c.args.texts.now.service.pages c.pages.ensures.value
      c.pages.ensures.ranges.distinct;
}

pub returns-in-Ok-read_slots-clause-bytes : goal.returns-in-Ok-read_slots-clause-bytes
returns-in-Ok-read_slots-clause-bytes g c =
    let walk = c.in-Ok.walk in
    let passed = c.begin_second-passed in
    let ended = c.read_slots-2.new.taker in
    let w = certificate_of c.args.texts.now.certificate in
    let verdict = c.finish.result in
    twice_walked (g.A.Read.remaining (inner_of c.args.first.now)) (g.B.Read.remaining (inner_of c.args.second.now))
    (pages_of c.args.texts.now.service) w (TookFirst walk c.read_slots.new.taker) (TookSecond passed.result ended) verdict
    c.in_default-read_slots.ensures.bytes c.in-Ok-read_slots.ensures.bytes
    (λ x y p q.
    let stands = q.0 x (passed.ensures.stands x (p.0 c.in-Ok.ensures.stands)) in
    let pages = q.1 ∙ passed.ensures.pages ∙ p.1 ∙ c.in-Ok.ensures.pages ∙ c.pages.ensures.value in
    let same = q.2 ∙ passed.ensures.certificate ∙ p.2 ∙ c.in-Ok.ensures.certificate in (
      subst (λ ps. IsWalkVerdict x y ps w verdict) pages (subst (λ v. IsWalkVerdict x y (second_pages ended) v verdict) same (c.finish.ensures.verdict x y stands)),
      subst (λ ps. Means y ps w verdict) pages (subst (λ v. Means y (second_pages ended) v verdict) same (c.finish.ensures.seen x y stands)),
    ))
