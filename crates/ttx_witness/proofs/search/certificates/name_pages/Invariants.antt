use Rattle.std.proofs.Common.{◌*◌}
use Rattle.ttx_witness.specs.search.Surveys.{AreNamedIn}
use Rattle.ttx_witness.proofs.search.certificates.name_pages.Given as goal

abbrev pub invariant-loop-index : goal.invariant-loop-index
invariant-loop-index l = record { named : AreNamedIn l.survey (26 * l.index) l.entries.items l.least }
