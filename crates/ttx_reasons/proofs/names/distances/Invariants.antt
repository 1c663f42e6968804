use Rattle.std.proofs.Common.{◌≡◌, ◌++◌, map, drop}
use Rattle.ttx_reasons.specs.Entries.{edits, distances}
use Rattle.ttx_reasons.proofs.names.distances.Given as goal

abbrev pub invariant-loop-entry : goal.invariant-loop-entry
invariant-loop-entry l = l.counts.items ++ distances l.word (drop l.entry-index l.table) ≡ distances l.word l.table
