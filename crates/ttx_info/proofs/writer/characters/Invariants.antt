use Rattle.std.proofs.Common.{◌≡◌, ℕ, ◌<◌, get_or, length}
use Rattle.ttx_code.specs.Words.{odd_byte}
use Rattle.ttx_info.proofs.writer.characters.Given as goal

abbrev pub invariant-loop-i : goal.invariant-loop-i
invariant-loop-i l = record {
  size : length l.bytes ≡ 20;
  done : (k : ℕ) → k < l.i → get_or l.bytes k 0 ≡ odd_byte (get_or l.text k 0);
}
