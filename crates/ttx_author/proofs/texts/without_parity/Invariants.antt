use Rattle.std.proofs.Common.{◌≡◌, ◌%◌, ℕ, ◌<◌, length, get_or}
use Rattle.ttx_author.proofs.texts.without_parity.Given as goal

abbrev pub invariant-loop-c : goal.invariant-loop-c
invariant-loop-c g l = (length l.codes ≡ length l.row) × ((k : ℕ) → k < l.c → get_or l.codes k 0 ≡ get_or l.row k 0 % 128)
