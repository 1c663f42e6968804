use Rattle.std.proofs.Common.{ℕ, ◌<◌, ◌≤◌, get_or}
use Rattle.ttx_plan.proofs.spread.first_least.Given as goal

abbrev pub invariant-loop-place : goal.invariant-loop-place
invariant-loop-place l = record {
  within : l.least < l.place;
  least : (other : ℕ) → other < l.place → get_or l.burdens l.least 0 ≤ get_or l.burdens other 0;
  first : (other : ℕ) → other < l.least → get_or l.burdens l.least 0 < get_or l.burdens other 0;
}
