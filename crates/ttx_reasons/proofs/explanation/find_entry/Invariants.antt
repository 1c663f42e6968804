use Rattle.std.proofs.Common.{◌≡◌, drop}
use Rattle.std.specs.Prelude.{find}
use Rattle.ttx_reasons.specs.Entries.{is_named}
use Rattle.ttx_reasons.proofs.explanation.find_entry.Given as goal

abbrev pub invariant-loop-entry : goal.invariant-loop-entry
invariant-loop-entry l = find (is_named l.word) (drop l.entry-index l.table) ≡ find (is_named l.word) l.table
