use Rattle.std.proofs.Common.{◌≡◌, ℕ, ◌<◌, length, get_or, []}
use Rattle.ttx_page.proofs.codes.know_lengths.Given as goal

abbrev pub invariant-loop-row : goal.invariant-loop-row
invariant-loop-row g l = (r : ℕ) → r < l.row-index → length (get_or l.rows r []) ≡ 40
