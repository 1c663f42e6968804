use Rattle.std.proofs.Common.{◌≡◌, take}
use Rattle.ttx_partial.specs.Asides.{aside}
use Rattle.ttx_partial.proofs.asides.aside_slots.Given as goal

abbrev pub invariant-loop-i : goal.invariant-loop-i
invariant-loop-i l = l.all.items ≡ aside l.page (take l.i l.slots)
