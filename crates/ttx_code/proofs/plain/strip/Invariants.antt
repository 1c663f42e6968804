use Rattle.std.proofs.Common.{◌≡◌, ℕ, ◌<◌, ◌≤◌, get_or, length}
use Rattle.ttx_code.specs.Words.{stored}
use Rattle.ttx_code.proofs.plain.strip.Given as goal

abbrev pub invariant-loop-i : goal.invariant-loop-i
invariant-loop-i l = record {
  size : length l.codes ≡ length l.initial.codes;
  done : (k : ℕ) → k < l.i → get_or l.codes k 0 ≡ stored (get_or l.bytes k 0) (get_or l.initial.codes k 0);
  left : (k : ℕ) → l.i ≤ k → get_or l.codes k 0 ≡ get_or l.initial.codes k 0;
}
