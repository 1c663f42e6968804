use Rattle.std.proofs.Common.{◌≡◌, ℕ, ◌<◌, length, get_or}
use Rattle.ttx_author.proofs.tags.is_named.Given as goal

abbrev pub invariant-loop-i : goal.invariant-loop-i
invariant-loop-i l = (length l.known-2 ≡ length l.name) × ((k : ℕ) → k < l.i → get_or l.known-2 k 0 ≡ get_or l.name k 0)
