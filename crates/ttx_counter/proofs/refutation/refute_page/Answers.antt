use Rattle.std.proofs.Common.{◌≡◌, ◌⊎◌, true, false, sym, ◌∙◌, inl, inr}
use Rattle.std.specs.Prelude.{is_some}
use Rattle.ttx_cycle.specs.Cycles.{slots_of-IsCycle}
use Rattle.ttx_counter.specs.Claims.{claimed_slots, claimed_pages, claimed_numbers, own_page, TellsItems}
use Rattle.ttx_counter.specs.Counters.{counter_run_of}
use Rattle.ttx_counter.proofs.SearchAnswers.{ok_map, absent_of, absent_none, well_unless, steady_if, page_told}
use Rattle.ttx_counter.proofs.refutation.refute_page.Goals.{then-not-clean-via-then-not-clean, then-not-clean-via-else-not-clean+then-is_some}
use Rattle.ttx_counter.proofs.refutation.refute_page.Goals as goal

pub returns-then-is_absent : goal.returns-then-is_absent
returns-then-is_absent c =
    let p = c.args.page.now in
    let claim = p.claim.now in
    absent_of (claimed_slots claim) (claimed_pages claim) (claimed_numbers claim) c.absent_pages_are_wrong.ensures
    c.plain_runs_are_counter_runs.ensures (slots_of-IsCycle claim.survey.now.cycle.now)
    (c.certificates_keep_their_rules.ensures claim.certificate.now).1 (own_page p) p.index p.at
    (absent_none (claimed_slots claim) (claimed_pages claim) (claimed_numbers claim) (own_page p) c.fault-fault.result c.fault-fault.ensures
    (sym c.is_absent.ensures ∙ c.if-is_absent.true))
    c.absent_counter.ensures.former (counter_run_of c.absent_counter.result) c.absent_counter.ensures.run

pub returns-then-not-clean : goal.returns-then-not-clean
returns-then-not-clean c =
    let p = c.args.page.now in
    let claim = p.claim.now in
    well_unless (claimed_slots claim) (claimed_pages claim) (claimed_numbers claim) c.steady_has_no_fault.ensures (own_page p)
    c.fault-fault.result c.fault-fault.ensures (sym c.is_absent.ensures ∙ c.if-is_absent.false) claim.clean c.requires.clean
    (elim c.then-not-clean.branch as (λ _. (claim.clean ≡ false) ⊎ (is_some c.fault-fault.result ≡ true)) [
      | then-not-clean-via-then-not-clean b ↦ inl b.if-not-clean.true
      | then-not-clean-via-else-not-clean+then-is_some b ↦ inr (sym b.is_some.ensures ∙ b.if-is_some.true)
    ])

pub starve_page-requires-clause-steady : goal.starve_page-requires-clause-steady
starve_page-requires-clause-steady c =
    let p = c.args.page.now in
    let claim = p.claim.now in
    steady_if (claimed_slots claim) (claimed_pages claim) (claimed_numbers claim) c.steady_has_no_fault.ensures (own_page p)
    c.fault-fault.result c.fault-fault.ensures (sym c.is_absent.ensures ∙ c.if-is_absent.false) (sym c.is_some.ensures ∙ c.if-is_some.false)

pub returns : goal.returns
returns c =
    let p = c.args.page.now in
    let claim = p.claim.now in
    ok_map (TellsItems p) _ c.starve_page.result
    (λ o t. page_told (claimed_slots claim) (claimed_pages claim) (claimed_numbers claim) c.steady_has_no_fault.ensures (own_page p)
    c.fault-fault.result c.fault-fault.ensures (sym c.is_absent.ensures ∙ c.if-is_absent.false) c.fullest_names_all.ensures
    (slots_of-IsCycle claim.survey.now.cycle.now) (c.certificates_keep_their_rules.ensures claim.certificate.now).1
    counter_run_of o (sym c.is_some.ensures ∙ c.if-is_some.false) (c.requires.clean.0 c.if-not-clean.false) p.index t)
    c.starve_page.ensures
