use Rattle.std.proofs.Common.{◌≡◌, take}
use Rattle.ttx_witness.proofs.faults.wrong_slots.same_six.Given as goal

abbrev pub invariant-loop-i : goal.invariant-loop-i
invariant-loop-i l = take l.i l.a ≡ take l.i l.b
