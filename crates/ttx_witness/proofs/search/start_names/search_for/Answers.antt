use Rattle.std.proofs.Common.{rules, ◌≡◌, ◌-◌, ◌∙◌, length, None, ap}
use Rattle.ttx_page.specs.Streams.{run_length}
use Rattle.std.proofs.lemmas.Result.{IfOk-weaker}
use Rattle.ttx_witness.specs.runs.Transmissions.{runs}
use Rattle.ttx_witness.specs.runs.SureStarts.{spread_of, sure_starts}
use Rattle.ttx_certificate.specs.Entries.{are_slots, rises}
use Rattle.ttx_cycle.specs.Cycles.{slots_of-IsCycle}
use Rattle.ttx_witness.specs.search.Surveys.{survey_slots, survey_pages, surveyed_page}
use Rattle.ttx_witness.proofs.lemmas.runs.Widths.{limit_most, run_most}
use Rattle.ttx_witness.proofs.lemmas.runs.FoundStarts.{starts_below, starts_rise}
use Rattle.ttx_witness.proofs.search.start_names.search_for.Goals as goal

pub returns-clause-starts : goal.returns-clause-starts
returns-clause-starts c =
    let s = c.args.surveyed.now in
    let v = s.survey.now in
    let same : c.slots.result.now ≡ survey_slots v = search rules in
    let listed = c.sent.ensures.listed (survey_slots v) (survey_pages v) v.lines (surveyed_page s) v.sent s.at in
    IfOk-weaker c.search_item.result _ _ (λ r found.
    found.starts ∙ ap sure_starts
    (ap (λ x. runs (length x) (c.run_length.result - 1) c.sent.result.now) same
    ∙ ap (λ k. runs (length (survey_slots v)) (k - 1) c.sent.result.now) c.run_length.ensures
    ∙ ap (runs (length (survey_slots v)) (run_length c.args.repeat c.args.item.now - 1)) listed)) c.search_item.ensures

pub returns-clause-spread : goal.returns-clause-spread
returns-clause-spread c =
    let s = c.args.surveyed.now in
    let v = s.survey.now in
    let same : c.slots.result.now ≡ survey_slots v = search rules in
    let listed = c.sent.ensures.listed (survey_slots v) (survey_pages v) v.lines (surveyed_page s) v.sent s.at in
    IfOk-weaker c.search_item.result _ _ (λ r found.
    found.spread ∙ ap (spread_of None)
    (ap (λ x. runs (length x) (c.run_length.result - 1) c.sent.result.now) same
    ∙ ap (λ k. runs (length (survey_slots v)) (k - 1) c.sent.result.now) c.run_length.ensures
    ∙ ap (runs (length (survey_slots v)) (run_length c.args.repeat c.args.item.now - 1)) listed)) c.search_item.ensures

pub returns-clause-slots : goal.returns-clause-slots
returns-clause-slots c = IfOk-weaker c.search_item.result _ _
    (λ s found. ap are_slots found.starts ∙ starts_below _ (c.run_length.result - 1) c.sent.result.now c.sent.ensures.in_order)
    c.search_item.ensures

pub returns-clause-rising : goal.returns-clause-rising
returns-clause-rising c = IfOk-weaker c.search_item.result _ _
    (λ s found. ap rises found.starts ∙ starts_rise _ (c.run_length.result - 1) c.sent.result.now c.sent.ensures.in_order)
    c.search_item.ensures

pub returns-clause-small : goal.returns-clause-small
returns-clause-small c =
    let i = slots_of-IsCycle c.args.surveyed.now.survey.now.cycle.now in
    let same : c.slots.result.now ≡ survey_slots c.args.surveyed.now.survey.now = search rules in
    IfOk-weaker c.search_item.result _ _ (λ s found limit is.
    limit_most _ (c.run_length.result - 1) c.sent.result.now s.spread limit i.most
    (run_most c.args.repeat c.args.item.now c.run_length.result c.requires.few c.run_length.ensures) c.sent.ensures.within
    (found.spread ∙ ap (λ x. spread_of None (runs (length x) (c.run_length.result - 1) c.sent.result.now)) same) is)
    c.search_item.ensures
