use Rattle.std.proofs.Common.{◌≡◌, ◌++◌, drop, length}
use Rattle.ttx_pages.specs.Keys.{owners_from, owners}
use Rattle.ttx_pages.proofs.keys.owners.Given as goal

abbrev pub invariant-loop-slot : goal.invariant-loop-slot
invariant-loop-slot l = record {
  rest : l.pages.items ++ owners_from l.current (drop l.slot-index l.slots) ≡ owners l.slots;
  size : length l.current ≡ 8;
  count : length l.pages.items ≡ l.slot-index;
}
