use Rattle.std.proofs.Common.{sym, ◌∙◌, arith}
use Rattle.std.proofs.lemmas.List.{length-map}
use Rattle.std.proofs.lemmas.Option.{slice_get_within}
use Rattle.ttx_page.specs.Views.{page_of}
use Rattle.ttx_counter.specs.Claims.{claimed_slots, claimed_pages, claimed_numbers}
use Rattle.ttx_counter.specs.Counters.{counter_run_of}
use Rattle.ttx_counter.proofs.SearchAnswers.{first_told, sent_more}
use Rattle.ttx_counter.proofs.refutation.refute_pages.Goals as goal

pub returns-then-is_some : goal.returns-then-is_some
returns-then-is_some c =
    let claim = c.args.claim.now in
    first_told (claimed_slots claim) (claimed_pages claim) (claimed_numbers claim) counter_run_of c.loop-index.index c.loop-index.invariant
    (page_of c.page_at-page.result.now) c.page_at-page.ensures c.in_ok-counter.counter (sym c.is_some.ensures ∙ c.if-is_some.true)
    c.in_ok-counter.ensures

pub loop-index-preserved : goal.loop-index-preserved
loop-index-preserved c =
    let claim = c.args.claim.now in
    sent_more (claimed_slots claim) (claimed_pages claim) (claimed_numbers claim) counter_run_of c.loop-index.index c.loop-index.invariant
    (page_of c.page_at-page.result.now) c.page_at-page.ensures c.in_ok-counter.counter (sym c.is_some.ensures ∙ c.if-is_some.false)
    c.in_ok-counter.ensures

pub returns : goal.returns
returns c = λ n p here.
    let lt = slice_get_within (claimed_pages c.args.claim.now) n p here in
    let l = length-map c.args.claim.now.survey.now.pages.now page_of in
    let t = c.loop-index-test.false in
    c.loop-index.invariant n p (omega arith) here
