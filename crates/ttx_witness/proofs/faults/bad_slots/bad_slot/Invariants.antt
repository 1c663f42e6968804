use Rattle.std.proofs.Common.{ℕ, ◌<◌}
use Rattle.ttx_witness.specs.faults.Reasons.{BadSlotAt}
use Rattle.ttx_witness.proofs.faults.bad_slots.bad_slot.Given as goal

abbrev pub invariant-loop-j : goal.invariant-loop-j
invariant-loop-j l = record { none : (i : ℕ) → i < l.j → BadSlotAt l.slots i → ⊥ }
