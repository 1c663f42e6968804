use Rattle.std.proofs.Common.{map, take}
use Rattle.ttx_witness.specs.search.Surveys.{survey_slots, survey_pages}
use Rattle.ttx_witness.specs.wait_times.ItemWaits.{AreItemWaits}
use Rattle.ttx_witness.proofs.wait_times.item_waits.item_waits_in.Given as goal

abbrev pub invariant-loop-index : goal.invariant-loop-index
invariant-loop-index l = record {
  told : AreItemWaits (survey_slots l.survey) (take l.index (survey_pages l.survey)) l.survey.class l.survey.repeat l.survey.lines
      (map (λ told. told.items) l.all.items);
}
