use Rattle.std.proofs.Common.{◌≡◌, ℕ, length, get_or}
use Rattle.ttx_counter.specs.Cells.{streak_of}
use Rattle.ttx_counter.proofs.streaks.empty_cells.Given as goal

abbrev pub invariant-loop-i : goal.invariant-loop-i
invariant-loop-i l = record { count : length l.cells.items ≡ l._i; none : (i : ℕ) → get_or l.cells.items i (streak_of 0 0) ≡ streak_of 0 0 }
