use Rattle.std.proofs.Common.{◌≡◌, ℕ, ◌<◌, get_or, length}
use Rattle.std.specs.Prelude.{slice_get, Some}
use Rattle.ttx_source.specs.Services.{Authored}
use Rattle.ttx_plan.specs.SubpageTurns.{burden}
use Rattle.ttx_plan.proofs.subpage_turns.burdens_among.Given as goal

abbrev pub invariant-loop-round : goal.invariant-loop-round
invariant-loop-round l = record {
  eight : length l.burdens ≡ 8;
  value : (p : Authored) → slice_get l.service.pages l.index ≡ Some p → (round : ℕ) → round < l.round →
      get_or l.burdens round 0 ≡ burden l.service.pages l.places l.index p (get_or l.packets round 0) round;
}
