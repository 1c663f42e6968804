use Rattle.ttx_cycle.specs.Cycles.{slots_of-IsCycle}
use Rattle.ttx_proof.specs.Laws.{IsSplice}
use Rattle.ttx_proof.specs.Splicing.{splice_of, AreKnown}
use Rattle.ttx_certify.proofs.PageByPage.{are_pages}
use Rattle.ttx_proof.proofs.PlacesOfPages.{ok_map}
use Rattle.ttx_proof.proofs.VerdictOfFindings.{known_of, means}
use Rattle.ttx_proof.proofs.acceptance.splice.Goals as goal

pub returns-clause-exact : goal.returns-clause-exact
returns-clause-exact c =
    let s = splice_of c.args.old.now c.args.new.now c.args.old_pages.now c.args.new_pages.now c.args.old_certificate.now c.args.new_certificate.now in
    let is : IsSplice s = record {
      old = slots_of-IsCycle c.args.old.now;
      new = slots_of-IsCycle c.args.new.now;
      old_pages = are_pages c.pages_keep_their_rules.ensures c.args.old_pages.now;
      new_pages = are_pages c.pages_keep_their_rules.ensures c.args.new_pages.now;
      old_certificate = (c.certificates_keep_their_rules.ensures c.args.old_certificate.now).1;
      new_certificate = (c.certificates_keep_their_rules.ensures c.args.new_certificate.now).1;
    } in
    let known : AreKnown s = known_of s is c.in_ok-reason.field-0 c.in_ok-reason-2.field-0 c.in_default.is c.in_default-2.is
    c.in_ok-reason.ensures.exact c.in_ok-reason-2.ensures.exact (c.numbers_agree.ensures.0 c.if-not-numbers_agree.false) in
    ok_map _ _ c.joined_verdict.result (λ v told. told known) c.joined_verdict.ensures

pub returns-clause-seen : goal.returns-clause-seen
returns-clause-seen c =
    let s = splice_of c.args.old.now c.args.new.now c.args.old_pages.now c.args.new_pages.now c.args.old_certificate.now c.args.new_certificate.now in
    let is : IsSplice s = record {
      old = slots_of-IsCycle c.args.old.now;
      new = slots_of-IsCycle c.args.new.now;
      old_pages = are_pages c.pages_keep_their_rules.ensures c.args.old_pages.now;
      new_pages = are_pages c.pages_keep_their_rules.ensures c.args.new_pages.now;
      old_certificate = (c.certificates_keep_their_rules.ensures c.args.old_certificate.now).1;
      new_certificate = (c.certificates_keep_their_rules.ensures c.args.new_certificate.now).1;
    } in
    let known : AreKnown s = known_of s is c.in_ok-reason.field-0 c.in_ok-reason-2.field-0 c.in_default.is c.in_default-2.is
    c.in_ok-reason.ensures.exact c.in_ok-reason-2.ensures.exact (c.numbers_agree.ensures.0 c.if-not-numbers_agree.false) in
    ok_map _ _ c.joined_verdict.result (λ v told. means s is c.verdicts_mean.ensures v (told known)) c.joined_verdict.ensures
