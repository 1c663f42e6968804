use Rattle.std.proofs.Common.{◌≡◌, ℕ, ◌<◌, true, slice_index_or, []}
use Rattle.ttx_packet.specs.Slots.{is_empty}
use Rattle.ttx_monitor.proofs.slips.first_packet.Given as goal

abbrev pub invariant-loop-n : goal.invariant-loop-n
invariant-loop-n l = (m : ℕ) → m < l.n → is_empty (slice_index_or l.window m []) ≡ true
