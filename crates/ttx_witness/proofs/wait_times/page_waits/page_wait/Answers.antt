use Rattle.std.proofs.Common.{rules, ◌≡◌, ◌≤◌, length, Some, None, subst, arith}
use Rattle.std.proofs.lemmas.Result.{IfOk-weaker}
use Rattle.ttx_cycle.specs.Cycles.{slots_of-IsCycle}
use Rattle.ttx_witness.specs.search.Surveys.{survey_slots, survey_pages, surveyed_page, IsFaultIn}
use Rattle.ttx_witness.proofs.lemmas.wait_times.PageDeadline.{wait_faulty, wait_limits}
use Rattle.ttx_witness.proofs.wait_times.page_waits.page_wait.Goals as goal

pub returns-in-Some : goal.returns-in-Some
returns-in-Some c = λ others.
    let s = c.args.surveyed.now in
    let v = s.survey.now in
    let is : c.fault.result ≡ Some c.in-Some.reason = search rules in
    wait_faulty c.steady_has_no_fault.ensures (survey_slots v) (survey_pages v)
    (surveyed_page s) v.class v.repeat v.lines c.in-Some.reason
    (subst (IsFaultIn v (surveyed_page s)) is (c.fault.ensures others))

pub returns-in-None : goal.returns-in-None
returns-in-None c =
    let s = c.args.surveyed.now in
    let v = s.survey.now in
    let i = slots_of-IsCycle v.cycle.now in
    let some : 1 ≤ length (survey_slots v) = let s = i.some in omega arith in
    let is : c.fault.result ≡ None = search rules in
    let page = s.page.now in
    IfOk-weaker c.longest_item.result _ _ (λ wait tells others.
    wait_limits c.each_slot_turns.ensures c.sure_starts_are_found.ensures c.least_limit_is_found.ensures (survey_slots v) some i.most
    (surveyed_page s)
    (λ item seen. c.blank_is_tested.ensures (surveyed_page s) item (c.pages_keep_their_rules.ensures page) (c.pages_have_six_links.ensures page) seen)
    v.class v.repeat v.lines v.some_lines v.few_lines v.some_repeats v.few_repeats (survey_pages v)
    (subst (IsFaultIn v (surveyed_page s)) is (c.fault.ensures others)) wait tells) c.longest_item.ensures
