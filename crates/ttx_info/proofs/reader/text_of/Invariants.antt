use Rattle.std.proofs.Common.{◌≡◌, ℕ, ◌+◌, ◌<◌, ◌%◌, get_or, length}
use Rattle.ttx_info.proofs.reader.text_of.Given as goal

abbrev pub invariant-loop-i : goal.invariant-loop-i
invariant-loop-i l = record {
  size : length l.text ≡ 20;
  done : (k : ℕ) → k < l.i → get_or l.text k 0 ≡ get_or l.bytes (22 + k) 0 % 128;
}
