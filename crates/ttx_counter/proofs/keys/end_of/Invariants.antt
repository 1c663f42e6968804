use Rattle.std.proofs.Common.{◌≡◌, ℕ, ◌<◌, ◌≤◌}
use Rattle.ttx_counter.specs.Keys.{slot_in, key_at}
use Rattle.ttx_counter.proofs.keys.end_of.Given as goal

abbrev pub invariant-loop-i : goal.invariant-loop-i
invariant-loop-i l = (a : ℕ) → l.from ≤ a → a < l.i → slot_in (key_at l.keys a) ≡ l.n
