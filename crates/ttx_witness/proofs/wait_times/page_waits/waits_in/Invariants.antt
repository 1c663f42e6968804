use Rattle.ttx_witness.specs.search.Surveys.{survey_slots, AreOthersIn}
use Rattle.ttx_witness.proofs.lemmas.wait_times.PageDeadline.{AreTold}
use Rattle.ttx_witness.proofs.wait_times.page_waits.waits_in.Given as goal

abbrev pub invariant-loop-index : goal.invariant-loop-index
invariant-loop-index l = record {
  told : AreOthersIn l.survey l.others → AreTold (survey_slots l.survey) l.survey.pages.now l.survey.class l.survey.repeat
      l.survey.lines l.index l.waits.items;
}
