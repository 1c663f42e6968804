use Rattle.std.proofs.Common.{◌≡◌, map, take}
use Rattle.ttx_check.specs.Entries.{queue_entry}
use Rattle.ttx_check.proofs.entries.entries.Given as goal

abbrev pub invariant-loop-index : goal.invariant-loop-index
invariant-loop-index l = l.entries.items ≡ map queue_entry (take l.index l.service.pages)
