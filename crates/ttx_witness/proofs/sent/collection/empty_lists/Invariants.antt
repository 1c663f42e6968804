use Rattle.std.proofs.Common.{◌≡◌, ℕ, [], length}
use Rattle.ttx_witness.specs.sent.Collected.{held}
use Rattle.ttx_witness.proofs.sent.collection.empty_lists.Given as goal

abbrev pub invariant-loop-i : goal.invariant-loop-i
invariant-loop-i l = record { count : length l.lists.items ≡ l._i; empty : (n : ℕ) → held l.lists.items n ≡ [] }
