use Rattle.std.proofs.Common.{◌≡◌, ℕ, pos, ◌-ℤ◌, List, length, slice_get, Some, None}
use Rattle.ttx_header.specs.Ids.{Id, IsId}
use Rattle.ttx_page.specs.Streams.{repeated}
use Rattle.ttx_witness.specs.sent.ItemTransmissions.{owner_scan, owner_moved}
use Rattle.ttx_witness.specs.sent.Collected.{IsIndex, AreApart, owner_for}
use Rattle.ttx_witness.proofs.sent.owners.entry_owners.Given as goal

abbrev pub invariant-loop-j : goal.invariant-loop-j
invariant-loop-j l = record {
  owners : (ids : List Id) → IsIndex ids l.index → (i : ℕ) (id : Id) → slice_get ids i ≡ Some id → IsId id →
      owner_for l.owners i id ≡ owner_moved (pos 0 -ℤ pos (length l.slots)) (owner_scan id (repeated l.slots) None l.j);
  apart : (ids : List Id) → IsIndex ids l.index → AreApart ids l.owners;
}
