use Rattle.std.proofs.Common.{ℕ, ◌<◌, List, slice_index_or}
use Rattle.ttx_packet.specs.Slots.{IsSlot}
use Rattle.ttx_cycle.proofs.arrays.are_slots.Given as goal

abbrev pub invariant-loop-i : goal.invariant-loop-i
invariant-loop-i l = (k : ℕ) (d : List ℕ) → k < l.i → IsSlot (slice_index_or l.slots k d)
