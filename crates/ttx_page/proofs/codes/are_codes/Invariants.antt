use Rattle.std.proofs.Common.{ℕ, ◌<◌, ◌↔◌, IsTrue, nat_lt, get_or}
use Rattle.ttx_page.proofs.codes.are_codes.Given as goal

abbrev pub invariant-loop-i : goal.invariant-loop-i
invariant-loop-i l = IsTrue (nat_lt l.union 128) ↔ ((c : ℕ) → c < l.i → get_or l.row c 0 < 128)
