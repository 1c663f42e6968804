use Rattle.std.proofs.Common.{◌≡◌, false, true, sym, ◌∙◌, arith}
use Rattle.std.proofs.lemmas.List.{length-map}
use Rattle.std.proofs.lemmas.Option.{slice_get_within}
use Rattle.ttx_page.specs.Views.{page_of}
use Rattle.ttx_counter.specs.Claims.{claimed_slots, claimed_pages, claimed_numbers}
use Rattle.ttx_counter.specs.Counters.{counter_run_of}
use Rattle.ttx_counter.proofs.SearchAnswers.{wrong_told, right_told}
use Rattle.ttx_counter.proofs.refutation.refute_all_plainly.Goals as goal

pub refute_by_number-by_number-requires-clause-exactly : goal.refute_by_number-by_number-requires-clause-exactly
refute_by_number-by_number-requires-clause-exactly c =
    let claim = c.args.claim.now in
    right_told (claimed_slots claim) (claimed_pages claim) (claimed_numbers claim) counter_run_of c.loop-index.index false
    c.refute_plainly-exactly.result (sym c.is_some.ensures ∙ c.if-is_some.false) c.refute_plainly-exactly.ensures

pub returns-then-is_some : goal.returns-then-is_some
returns-then-is_some c =
    let claim = c.args.claim.now in
    wrong_told (claimed_slots claim) (claimed_pages claim) (claimed_numbers claim) counter_run_of c.loop-index.index false
    (λ e. absurd (let h : false ≡ true = e in cc)) c.loop-index.invariant
    c.refute_plainly-exactly.result (sym c.is_some.ensures ∙ c.if-is_some.true) c.refute_plainly-exactly.ensures

pub returns-then-is_some-2 : goal.returns-then-is_some-2
returns-then-is_some-2 c =
    let claim = c.args.claim.now in
    wrong_told (claimed_slots claim) (claimed_pages claim) (claimed_numbers claim) counter_run_of c.loop-index.index true
    (λ _. right_told (claimed_slots claim) (claimed_pages claim) (claimed_numbers claim) counter_run_of c.loop-index.index false
    c.refute_plainly-exactly.result (sym c.is_some.ensures ∙ c.if-is_some.false) c.refute_plainly-exactly.ensures)
    c.loop-index.invariant c.refute_by_number-by_number.result
    (sym c.is_some-in-loop-index.ensures ∙ c.if-is_some-2.true) c.refute_by_number-by_number.ensures

pub returns : goal.returns
returns c = λ n any_sub p here.
    let lt = slice_get_within (claimed_pages c.args.claim.now) n p here in
    let l = length-map c.args.claim.now.survey.now.pages.now page_of in
    let t = c.loop-index-test.false in
    c.loop-index.invariant n any_sub (omega arith) p here
