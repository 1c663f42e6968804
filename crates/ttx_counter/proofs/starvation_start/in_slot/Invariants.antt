use Rattle.std.proofs.Common.{◌≡◌, ◌<◌, ℕ, pos, get_or}
use Rattle.ttx_witness.specs.declared.runs.transmissions.Transmission.{Transmission}
use Rattle.ttx_counter.proofs.starvation_start.in_slot.Given as goal

abbrev pub invariant-loop-i : goal.invariant-loop-i
invariant-loop-i l = (j : ℕ) (t : Transmission) → j < l.i → (get_or l.sent j t).slot ≡ pos l.slot → ⊥
