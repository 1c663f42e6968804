use Rattle.std.proofs.Common.{◌≡◌, length}
use Rattle.ttx_witness.specs.faults.Faults.{HaveFaults}
use Rattle.ttx_witness.specs.search.Surveys.{survey_slots, survey_pages, AreOthersIn}
use Rattle.ttx_witness.proofs.search.certificates.faults_in.Given as goal

abbrev pub invariant-loop-index : goal.invariant-loop-index
invariant-loop-index l = record {
  count : length l.faults.items ≡ l.index;
  told : AreOthersIn l.survey l.others → HaveFaults (survey_slots l.survey) (survey_pages l.survey) l.faults.items;
}
