use Rattle.std.proofs.Common.{rules, ◌≡◌, ◌+◌, ◌++◌, ◌∷◌, [], sym, ap, ◌∙◌, subst}
use Rattle.ttx_witness.specs.search.Surveys.{survey_slots, surveyed_page}
use Rattle.ttx_witness.specs.wait_times.SurveyedWaits.{AreItemsToldIn}
use Rattle.ttx_witness.proofs.lemmas.wait_times.ItemByItem.{nothing_told, item_unseen, item_told}
use Rattle.ttx_witness.proofs.wait_times.item_waits.items_told.Goals as goal
use Rattle.ttx_witness.proofs.wait_times.item_waits.items_told.Goals.{then-needed+in_ok-wait+else-is_err, else-needed}

pub loop-number-init : goal.loop-number-init
loop-number-init c = record {
  told = let s = c.args.surveyed.now in let v = s.survey.now
      in nothing_told (survey_slots v) (surveyed_page s) v.class v.repeat v.lines c.new-told.result.items
      c.new-told.ensures.items;
}

pub loop-number-preserved : goal.loop-number-preserved
loop-number-preserved c = record {
  told =
      let s = c.args.surveyed.now in
      let v = s.survey.now in
      let item = c.item_of-item.result in
      let n = c.loop-number.number in
      let old = c.loop-number.told.items in
      let h = c.loop-number.invariant.told in
      elim c.if-needed.branch as (λ _. AreItemsToldIn s (n + 1) c.if-needed.told.items) [
        | then-needed+in_ok-wait+else-is_err w ↦
            let wait = w.in_ok-wait.wait in
            let pushed : w.push.new.self.items ≡ old ++ record { item = item; wait = wait } ∷ [] = search rules in
            subst (AreItemsToldIn s (n + 1)) (sym (ap (λ v. v.items) w.told-is ∙ pushed))
            (item_told (survey_slots v) (surveyed_page s) v.class v.repeat v.lines n item c.item_of-item.ensures.item
            c.item_of-item.ensures.number old h wait w.in_ok-wait.ensures)
        | else-needed w ↦
            subst (λ v. AreItemsToldIn s (n + 1) v.items) (sym w.told-is)
            (item_unseen (survey_slots v) (surveyed_page s) v.class v.repeat v.lines n item c.item_of-item.ensures.item
            c.item_of-item.ensures.number old h (sym c.needed.ensures ∙ w.if-needed.false))
      ];
}
