use Rattle.std.proofs.Common.{◌≤◌, length, Some, None, refl, sym, subst, string_bytes}
use Rattle.std.proofs.lemmas.Result.{IfOk-weaker}
use Rattle.ttx_certify.proofs.PageByPage.{are_pages}
use Rattle.ttx_certify.specs.Laws.{ArePages}
use Rattle.ttx_cycle.specs.Bounded.{most_bytes}
use Rattle.ttx_cycle.specs.Cycles.{slots_of, slots_of-IsCycle}
use Rattle.ttx_source.specs.Services.{pages_of}
use Rattle.ttx_certificate.specs.Certificates.{fields_of, certificate_of}
use Rattle.ttx_witness.specs.search.Finding.{IsFoundFor}
use Rattle.ttx_tool.specs.Find.{TellsFound}
use Rattle.ttx_tool.proofs.FoundNothing.{says_no}
use Rattle.ttx_tool.proofs.NamedSlots.{found_is_short}
use Rattle.ttx_tool.proofs.commands.find.tell.Goals as goal

pub returns-in-Some : goal.returns-in-Some
returns-in-Some c =
    let w = fields_of c.in_ok-found.found.certificate in
    let slots = slots_of c.args.cycle.now in
    let service = c.args.service.now in
    let rules = c.certificates_keep_their_rules.ensures c.in_ok-found.found.certificate in
    let cycle_is = slots_of-IsCycle c.args.cycle.now in
    let found = subst (λ d. IsFoundFor slots (pages_of service) c.args.repeat service.lines c.args.class
    (certificate_of c.in_ok-found.found.certificate) d) c.in-Some.is c.in_ok-found.ensures in
    let short = found_is_short slots (pages_of service) c.args.repeat service.lines c.args.class (certificate_of c.in_ok-found.found.certificate)
    (Some c.in-Some.deadline) found w refl rules.0
    cycle_is.most in
    let pages : ArePages (pages_of service) = subst ArePages c.pages-pages.ensures.value
    (are_pages c.pages_keep_their_rules.ensures c.pages-pages.result.now) in
    let seen = c.accepted_is_seen.ensures slots (pages_of service) (certificate_of c.in_ok-found.found.certificate) cycle_is pages rules.1
    found.least.1 in
    IfOk-weaker c.tell_deadline.result _ _ (λ t h. record {
      w = w;
      fields = rules.0;
      ranges = rules.1;
      deadline = c.in_ok-found.found.deadline;
      found = c.in_ok-found.ensures;
      told = subst (λ d. TellsFound (slots_of c.args.cycle.now) c.args.service.now w d t.file.items (string_bytes t.line) t.verdict)
          (sym c.in-Some.is) (record { written = h; most = subst (λ xs. length xs ≤ most_bytes) (sym h.0) short; seen = seen });
    }) c.tell_deadline.ensures

pub returns : goal.returns
returns c =
    let w = fields_of c.in_ok-found.found.certificate in
    let slots = slots_of c.args.cycle.now in
    let service = c.args.service.now in
    let rules = c.certificates_keep_their_rules.ensures c.in_ok-found.found.certificate in
    let found = subst (λ d. IsFoundFor slots (pages_of service) c.args.repeat service.lines c.args.class
    (certificate_of c.in_ok-found.found.certificate) d) c.in-None.is c.in_ok-found.ensures in
    IfOk-weaker c.tell_verdict.result _ _ (λ t h. record {
      w = w;
      fields = rules.0;
      ranges = rules.1;
      deadline = None;
      found = found;
      told = says_no slots service c.args.repeat c.args.class w rules.1 found t.file.items (string_bytes t.line) t.verdict h;
    }) c.tell_verdict.ensures
