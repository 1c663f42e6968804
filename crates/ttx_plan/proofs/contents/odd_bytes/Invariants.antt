use Rattle.std.proofs.Common.{◌≡◌, ℕ, ◌<◌, get_or, length}
use Rattle.ttx_code.specs.Words.{odd_byte}
use Rattle.ttx_plan.proofs.contents.odd_bytes.Given as goal

abbrev pub invariant-loop-i : goal.invariant-loop-i
invariant-loop-i g l = record {
  size : length l.bytes ≡ g.row.N;
  done : (k : ℕ) → k < l.i → get_or l.bytes k 0 ≡ odd_byte (get_or l.codes k 0);
}
