use Rattle.std.proofs.Common.{◌≡◌, ℕ, ◌<◌}
use Rattle.ttx_counter.specs.Keys.{byte_place, key_at}
use Rattle.ttx_counter.proofs.keys.are_apart.Given as goal

abbrev pub invariant-loop-i : goal.invariant-loop-i
invariant-loop-i l = (a b : ℕ) → a < b → b < l.i → byte_place (key_at l.keys a) ≡ byte_place (key_at l.keys b) → ⊥
