use Rattle.std.proofs.Common.{◌≡◌, take}
use Rattle.ttx_pages.specs.Keys.{opens}
use Rattle.ttx_pages.proofs.keys.open_pages.Given as goal

abbrev pub invariant-loop-slot : goal.invariant-loop-slot
invariant-loop-slot l = l.current ≡ opens (take l.slot-index l.slots)
