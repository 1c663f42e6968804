use Rattle.std.proofs.Common.{◌≡◌, ◌≤◌}
use Rattle.std.specs.Prelude.{slice_get, Some}
use Rattle.ttx_source.specs.Services.{Authored}
use Rattle.ttx_plan.specs.SubpageTurns.{count_below, is_earlier_mate}
use Rattle.ttx_plan.proofs.subpage_turns.mates_so_far.Given as goal

abbrev pub invariant-loop-other : goal.invariant-loop-other
invariant-loop-other l = record {
  value : (p : Authored) → slice_get l.service.pages l.index ≡ Some p →
      l.count ≡ count_below l.other (is_earlier_mate l.service.pages l.places l.index p l.round);
  few : l.count ≤ l.other;
}
