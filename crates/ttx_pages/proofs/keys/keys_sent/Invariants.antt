use Rattle.std.proofs.Common.{◌≡◌, ◌++◌, drop, length}
use Rattle.ttx_pages.specs.Keys.{keys_from, keys_sent}
use Rattle.ttx_pages.proofs.keys.keys_sent.Given as goal

abbrev pub invariant-loop-slot : goal.invariant-loop-slot
invariant-loop-slot l = record {
  rest : l.keys.items ++ keys_from l.part l.current (drop l.slot-index l.slots) ≡ keys_sent l.part l.slots;
  size : length l.current ≡ 8;
}
