use Rattle.std.proofs.Common.{rules, ◌≡◌, ◌+◌, None, sym, ◌∙◌, subst}
use Rattle.ttx_witness.specs.search.Surveys.{survey_slots, survey_pages, surveyed_page}
use Rattle.ttx_witness.specs.wait_times.ItemLimits.{AllBelow}
use Rattle.ttx_witness.specs.wait_times.SurveyedWaits.{IsLongestIn}
use Rattle.ttx_witness.proofs.lemmas.wait_times.ItemLimits.{longest_unseen, longest_kept, longest_new, own_field}
use Rattle.ttx_witness.proofs.wait_times.page_waits.longest_item.Goals as goal
use Rattle.ttx_witness.proofs.wait_times.page_waits.longest_item.Goals.{then-needed+in_ok-slots+in-Some+then-own-fields}
use Rattle.ttx_witness.proofs.wait_times.page_waits.longest_item.Goals.{then-needed+in_ok-slots+in-Some+else-own-fields, else-needed}

pub returns-in_default : goal.returns-in_default
returns-in_default c =
    let s = c.args.surveyed.now in
    let v = s.survey.now in
    let item = c.item_of-item.result in
    let none : c.in_ok-slots.field-0 ≡ None = search rules in
    let before = c.loop-number.invariant.longest.all in (
      sym c.needed.ensures ∙ c.if-needed.true,
      sym c.in_ok-slots.ensures.least ∙ none,
      (
        c.loop-number.fields + 1,
        subst
            (λ n. AllBelow (survey_slots v) (surveyed_page s) v.class v.repeat v.lines n (c.loop-number.fields + 1))
            (sym c.item_of-item.ensures.number) before,
      ),
      c.losses_of-losses.ensures (survey_slots v) (surveyed_page s) item
          (c.sent.ensures.listed (survey_slots v) (survey_pages v) v.lines (surveyed_page s) v.sent s.at),
    )

pub loop-number-preserved : goal.loop-number-preserved
loop-number-preserved c = record {
  longest =
      let s = c.args.surveyed.now in
      let v = s.survey.now in
      let item = c.item_of-item.result in
      let n = c.loop-number.number in
      let before = c.loop-number.invariant.longest in
      elim c.if-needed.branch as (λ _. IsLongestIn s (n + 1) c.if-needed.fields c.if-needed.longest) [
        | then-needed+in_ok-slots+in-Some+then-own-fields w ↦
            let own = w.fields_for-own.result in
            subst (λ f. IsLongestIn s (n + 1) f c.if-needed.longest) (sym w.fields-is)
            (subst (λ i. IsLongestIn s (n + 1) own i) (sym w.longest-is)
            (longest_new (survey_slots v) (surveyed_page s) v.class v.repeat v.lines n item c.item_of-item.ensures.item
            c.item_of-item.ensures.number c.loop-number.fields c.loop-number.longest before own
            (sym c.needed.ensures ∙ w.if-needed.true)
            (own_field (survey_slots v) (surveyed_page s) v.class v.repeat v.lines item w.in_ok-slots.field-0 w.in-Some.slots own
            w.in_ok-slots.ensures.least w.in-Some.is w.fields_for-own.ensures)
            w.if-own-fields.true))
        | then-needed+in_ok-slots+in-Some+else-own-fields w ↦
            let own = w.fields_for-own.result in
            subst (λ f. IsLongestIn s (n + 1) f c.if-needed.longest) (sym w.fields-is)
            (subst (λ i. IsLongestIn s (n + 1) c.loop-number.fields i) (sym w.longest-is)
            (longest_kept (survey_slots v) (surveyed_page s) v.class v.repeat v.lines n item c.item_of-item.ensures.item
            c.item_of-item.ensures.number c.loop-number.fields c.loop-number.longest before own
            (sym c.needed.ensures ∙ w.if-needed.true)
            (own_field (survey_slots v) (surveyed_page s) v.class v.repeat v.lines item w.in_ok-slots.field-0 w.in-Some.slots own
            w.in_ok-slots.ensures.least w.in-Some.is w.fields_for-own.ensures)
            w.if-own-fields.false))
        | else-needed w ↦
            subst (λ f. IsLongestIn s (n + 1) f c.if-needed.longest) (sym w.fields-is)
            (subst (λ i. IsLongestIn s (n + 1) c.loop-number.fields i) (sym w.longest-is)
            (longest_unseen (survey_slots v) (surveyed_page s) v.class v.repeat v.lines n item c.item_of-item.ensures.item
            c.item_of-item.ensures.number c.loop-number.fields c.loop-number.longest before
            (sym c.needed.ensures ∙ w.if-needed.false)))
      ];
}
