use Rattle.std.proofs.Common.{◌≡◌, ◌*◌, ℕ, length, slice_index}
use Rattle.ttx_monitor.proofs.streaks.no_streaks.Given as goal

abbrev pub invariant-loop-i : goal.invariant-loop-i
invariant-loop-i l = record { size : length l.cells.items ≡ 1050 * l._i; zero : (q : ℕ) → slice_index l.cells.items q ≡ 0 }
