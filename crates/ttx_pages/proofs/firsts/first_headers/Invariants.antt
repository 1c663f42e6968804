use Rattle.std.proofs.Common.{◌≡◌, ℕ, take}
use Rattle.std.specs.BTreeMap as tree
use Rattle.std.specs.List.{find}
use Rattle.std.specs.Ordering.{nat_cmp}
use Rattle.ttx_pages.specs.Firsts.{ArePageKeys}
use Rattle.ttx_pages.specs.Keys.{is_header_of}
use Rattle.ttx_pages.proofs.firsts.first_headers.Given as goal

abbrev pub invariant-loop-slot : goal.invariant-loop-slot
invariant-loop-slot l = record {
  first : (q : ℕ) → tree.get nat_cmp l.firsts q ≡ find (is_header_of q) (take l.slot-index l.slots);
  pages : ArePageKeys l.firsts;
}
