use Rattle.std.proofs.Common.{◌≡◌, drop, None}
use Rattle.ttx_certificate.specs.Entries.{rises_above, entry_places}
use Rattle.ttx_certificate.specs.EntryViews.{entries_of}
use Rattle.ttx_certificate.proofs.certificates.are_in_order.Given as goal

abbrev pub invariant-loop-entry : goal.invariant-loop-entry
invariant-loop-entry l = rises_above None (entry_places (entries_of l.entries))
    ≡ rises_above l.low (entry_places (entries_of (drop l.entry-index l.entries)))
