use Rattle.std.proofs.Common.{◌≡◌, ℕ, ◌<◌, get_or, length}
use Rattle.ttx_plan.proofs.subpage_turns.burdens_alone.Given as goal

abbrev pub invariant-loop-round : goal.invariant-loop-round
invariant-loop-round l = record {
  eight : length l.burdens ≡ 8;
  value : (round : ℕ) → round < l.round → get_or l.burdens round 0 ≡ get_or l.packets round 0;
}
