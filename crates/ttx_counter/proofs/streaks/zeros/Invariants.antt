use Rattle.std.proofs.Common.{◌≡◌, ℕ, length, get_or}
use Rattle.ttx_counter.proofs.streaks.zeros.Given as goal

abbrev pub invariant-loop-i : goal.invariant-loop-i
invariant-loop-i l = record { count : length l.zeros.items ≡ l._i; zero : (i : ℕ) → get_or l.zeros.items i 0 ≡ 0 }
