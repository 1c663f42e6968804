use Rattle.std.proofs.Common.{rules, map, subst}
use Rattle.ttx_cycle.specs.Cycles.{slots_of, slots_of-IsCycle}
use Rattle.ttx_page.specs.Views.{page_of}
use Rattle.ttx_certificate.specs.Certificates.{certificate_of}
use Rattle.ttx_witness.specs.faults.Faults.{HaveFaults}
use Rattle.ttx_counter.specs.Counters.{counter_run_of}
use Rattle.ttx_counter.specs.Refutations.{NamesSureStarts, TellsCounter}
use Rattle.ttx_counter.proofs.SearchAnswers.{ok_map, are_pages, exact_told}
use Rattle.ttx_counter.proofs.refutation.refute.Goals as goal

pub refute_claim-requires : goal.refute_claim-requires
refute_claim-requires c =
    let cycle = slots_of c.args.cycle.now in
    let pages = map page_of c.args.pages.now in
    let w = certificate_of c.args.certificate.now in
    let found = certificate_of c.in_ok-found.found.certificate in
    let faults = c.in_ok-faults.ensures c.in_ok-others.ensures in
    record {
      lines = c.lines-lines.ensures;
      named = subst (λ l. NamesSureStarts cycle pages (record w { lines = l }) found) c.lines-lines.ensures
          (subst (λ r. NamesSureStarts cycle pages (record w { lines = c.lines-lines.result; repeat = r }) found) c.repeat-repeat.ensures
          c.in_ok-found.ensures.named);
      others = c.in_ok-others.ensures;
      faults = subst (HaveFaults cycle pages) (search rules) faults.each;
      clean = search rules;
    }

pub returns-clause-exact : goal.returns-clause-exact
returns-clause-exact c =
    let cycle = slots_of c.args.cycle.now in
    let pages = map page_of c.args.pages.now in
    let w = certificate_of c.args.certificate.now in
    ok_map (TellsCounter counter_run_of cycle pages w) _ c.refute_claim.result
    (exact_told cycle pages w counter_run_of c.fullest_names_all.ensures c.further_starts_cover.ensures c.refuted_is_not_accepted.ensures
    (slots_of-IsCycle c.args.cycle.now) (are_pages c.pages_keep_their_rules.ensures c.args.pages.now)
    (c.certificates_keep_their_rules.ensures c.args.certificate.now).1 c.requires.any)
    c.refute_claim.ensures.tells
