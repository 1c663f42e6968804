use Rattle.std.proofs.Common.{◌≤◌, length, sym, ◌∙◌, arith}
use Rattle.ttx_cycle.specs.Cycles.{slots_of-IsCycle}
use Rattle.ttx_witness.specs.search.Surveys.{survey_slots, survey_pages, surveyed_page}
use Rattle.ttx_witness.proofs.lemmas.wait_times.ItemLimits.{own_field}
use Rattle.ttx_witness.proofs.lemmas.wait_times.PageDeadline.{item_least, item_never}
use Rattle.ttx_witness.proofs.wait_times.item_waits.item_wait.Goals as goal

pub returns-in-Some : goal.returns-in-Some
returns-in-Some c =
    let s = c.args.surveyed.now in
    let v = s.survey.now in
    let i = slots_of-IsCycle v.cycle.now in
    let some : 1 ≤ length (survey_slots v) = (let s = i.some in omega arith) in
    let page = s.page.now in
    let item = c.args.item.now in
    record {
      seen = c.requires.seen;
      least = item_least c.each_slot_turns.ensures c.sure_starts_are_found.ensures c.least_limit_is_found.ensures
          (survey_slots v) some i.most (surveyed_page s)
          (λ item seen. c.blank_is_tested.ensures (surveyed_page s) item (c.pages_keep_their_rules.ensures page)
          (c.pages_have_six_links.ensures page) seen)
          v.class v.repeat v.lines v.some_lines v.few_lines v.some_repeats v.few_repeats item c.requires.seen c.fields_for.result
          (own_field (survey_slots v) (surveyed_page s) v.class v.repeat v.lines item c.in_ok-slots.field-0 c.in-Some.slots
          c.fields_for.result c.in_ok-slots.ensures.least c.in-Some.is c.fields_for.ensures);
      losses = tt;
    }

pub returns-in-None : goal.returns-in-None
returns-in-None c =
    let s = c.args.surveyed.now in
    let v = s.survey.now in
    let i = slots_of-IsCycle v.cycle.now in
    let some : 1 ≤ length (survey_slots v) = (let s = i.some in omega arith) in
    let page = s.page.now in
    let item = c.args.item.now in
    record {
      seen = c.requires.seen;
      least = item_never c.each_slot_turns.ensures c.sure_starts_are_found.ensures c.least_limit_is_found.ensures
          (survey_slots v) some i.most (surveyed_page s)
          (λ item seen. c.blank_is_tested.ensures (surveyed_page s) item (c.pages_keep_their_rules.ensures page)
          (c.pages_have_six_links.ensures page) seen)
          v.class v.repeat v.lines v.some_lines v.few_lines v.some_repeats v.few_repeats item
          (sym c.in_ok-slots.ensures.least ∙ c.in-None.is);
      losses = c.losses_of.ensures (survey_slots v) (surveyed_page s) item
          (c.sent.ensures.listed (survey_slots v) (survey_pages v) v.lines (surveyed_page s) v.sent s.at);
    }
