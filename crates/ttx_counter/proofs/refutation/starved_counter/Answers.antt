use Rattle.std.proofs.Common.{◌≡◌}
use Rattle.ttx_cycle.specs.Cycles.{slots_of-IsCycle}
use Rattle.ttx_counter.specs.Claims.{claimed_slots, claimed_pages, claimed_numbers, own_page}
use Rattle.ttx_counter.specs.Counters.{counter_run_of}
use Rattle.ttx_counter.specs.StarvingRuns.{starving_run}
use Rattle.ttx_counter.proofs.SearchAnswers.{ok_map, starved_of}
use Rattle.ttx_counter.proofs.refutation.starved_counter.Goals as goal

pub returns : goal.returns
returns c =
    let p = c.args.page.now in
    let claim = p.claim.now in
    let w = claimed_numbers claim in
    ok_map (λ k. counter_run_of k ≡ starving_run (claimed_slots claim) p.index (own_page p) c.args.item.now c.args.start w.lines w.repeat w.deadline) _
    c.counter_for.result
    (λ k made. starved_of (claimed_slots claim) (claimed_pages claim) w c.starving_is_counter_run.ensures (own_page p) p.index p.at
    (slots_of-IsCycle claim.survey.now.cycle.now) (c.pages_keep_their_rules.ensures p.page.now)
    (c.certificates_keep_their_rules.ensures claim.certificate.now).1 c.requires.clean c.requires.steady c.args.item.now c.args.start
    c.requires.starved (counter_run_of k) made c.starved_is_not_covered.ensures)
    c.counter_for.ensures
