use Rattle.std.proofs.Common.{◌≡◌, ℕ, ◌<◌, pos, ◌-ℤ◌, slice_get, Some}
use Rattle.ttx_header.specs.Ids.{Id}
use Rattle.ttx_witness.specs.sent.ItemTransmissions.{owner_moved}
use Rattle.ttx_witness.specs.sent.Collected.{owner_for}
use Rattle.ttx_page.specs.Views.{ids_of}
use Rattle.ttx_certify.proofs.walks.returning_owners.are_steady.Given as goal

abbrev pub invariant-loop-i : goal.invariant-loop-i
invariant-loop-i l = record {
  same : (i : ℕ) (id : Id) → i < l.i → slice_get (ids_of l.pages) i
      ≡ Some id → owner_moved (pos 0 -ℤ pos l.by) (owner_for l.exit i id) ≡ owner_for l.entry i id;
}
