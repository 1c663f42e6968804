use Rattle.std.proofs.Common.{sym, ◌∙◌}
use Rattle.ttx_counter.specs.Claims.{claimed_slots, claimed_pages, claimed_numbers}
use Rattle.ttx_counter.specs.Counters.{counter_run_of}
use Rattle.ttx_counter.proofs.SearchAnswers.{counter_told, both_told, first_of_pages, first_of_plain}
use Rattle.ttx_counter.proofs.refutation.refute_claim.Goals as goal

pub returns-then-is_some-clause-tells : goal.returns-then-is_some-clause-tells
returns-then-is_some-clause-tells c =
    let claim = c.args.claim.now in
    counter_told (claimed_slots claim) (claimed_pages claim) (claimed_numbers claim) counter_run_of c.in_ok-counter.counter
    (sym c.is_some.ensures ∙ c.if-is_some.true) c.in_ok-counter.ensures

pub returns-then-is_some-clause-first : goal.returns-then-is_some-clause-first
returns-then-is_some-clause-first c =
    let claim = c.args.claim.now in
    first_of_pages (claimed_slots claim) (claimed_pages claim) (claimed_numbers claim) counter_run_of c.in_ok-counter.counter
    (sym c.is_some.ensures ∙ c.if-is_some.true) c.in_ok-counter.ensures

pub returns-clause-tells : goal.returns-clause-tells
returns-clause-tells c =
    let claim = c.args.claim.now in
    both_told (claimed_slots claim) (claimed_pages claim) (claimed_numbers claim) counter_run_of c.in_ok-counter.counter
    (sym c.is_some.ensures ∙ c.if-is_some.false) c.in_ok-counter.ensures c.refute_all_plainly.result c.refute_all_plainly.ensures

pub returns-clause-first : goal.returns-clause-first
returns-clause-first c =
    let claim = c.args.claim.now in
    first_of_plain (claimed_slots claim) (claimed_pages claim) (claimed_numbers claim) counter_run_of c.in_ok-counter.counter
    (sym c.is_some.ensures ∙ c.if-is_some.false) c.in_ok-counter.ensures c.refute_all_plainly.result c.refute_all_plainly.ensures
