use Rattle.std.proofs.Common.{◌*◌, ◌+◌}
use Rattle.ttx_witness.specs.search.Surveys.{AreNamedIn}
use Rattle.ttx_witness.proofs.search.start_names.name_page.Given as goal

abbrev pub invariant-loop-number : goal.invariant-loop-number
invariant-loop-number l = record {
  named : AreNamedIn l.surveyed.survey.now (26 * l.surveyed.index) l.initial.entries.items l.initial.least →
      AreNamedIn l.surveyed.survey.now (26 * l.surveyed.index + l.number) l.entries.items l.least;
}
