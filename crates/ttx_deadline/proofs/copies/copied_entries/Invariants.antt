use Rattle.std.proofs.Common.{◌≡◌, ◌++◌, drop}
use Rattle.ttx_certificate.specs.EntryViews.{entries_of}
use Rattle.ttx_deadline.proofs.copies.copied_entries.Given as goal

abbrev pub invariant-loop-entry : goal.invariant-loop-entry
invariant-loop-entry l = entries_of l.all.items ++ entries_of (drop l.entry-index l.entries) ≡ entries_of l.entries
