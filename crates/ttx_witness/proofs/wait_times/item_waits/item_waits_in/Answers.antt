use Rattle.std.proofs.Common.{rules, ◌≡◌, ◌++◌, ◌∷◌, [], map, take, sym, ap, ◌∙◌, subst}
use Rattle.std.proofs.lemmas.List.{map-append}
use Rattle.ttx_witness.specs.search.Surveys.{survey_slots, survey_pages, surveyed_page}
use Rattle.ttx_witness.specs.wait_times.ItemWaits.{AreItemWaits}
use Rattle.ttx_witness.proofs.lemmas.search.Surveys.{surveyed_here}
use Rattle.ttx_witness.proofs.lemmas.wait_times.ItemByItem.{take_next, page_told}
use Rattle.ttx_witness.proofs.lemmas.wait_times.SurveyedWaits.{items_here}
use Rattle.ttx_witness.proofs.wait_times.item_waits.item_waits_in.Goals as goal

pub loop-index-preserved : goal.loop-index-preserved
loop-index-preserved c =
    let v = c.args.survey.now in
    let s = c.surveyed_at.result in
    let index = c.loop-index.index in
    let at = surveyed_here v index s c.surveyed_at.ensures.survey c.surveyed_at.ensures.index in
    let told = c.in_ok-told.told in
    let pushed : c.push.new.self.items ≡ c.loop-index.all.items ++ told ∷ [] = search rules in
    record {
      told = subst (λ xs. AreItemWaits (survey_slots v) xs v.class v.repeat v.lines (map (λ told. told.items) c.push.new.self.items))
          (take_next (survey_pages v) index (surveyed_page s) at)
          (subst (AreItemWaits (survey_slots v) (take index (survey_pages v) ++ surveyed_page s ∷ []) v.class v.repeat v.lines)
          (sym (ap (map (λ told. told.items)) pushed ∙ map-append (λ told. told.items) c.loop-index.all.items (told ∷ [])))
          (page_told (survey_slots v) (take index (survey_pages v)) (surveyed_page s) v.class v.repeat v.lines
          (map (λ told. told.items) c.loop-index.all.items) told.items c.loop-index.invariant.told
          (items_here v index s c.surveyed_at.ensures.survey c.surveyed_at.ensures.index (surveyed_page s) at 26 told.items c.in_ok-told.ensures)));
    }
