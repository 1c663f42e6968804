use Rattle.std.proofs.Common.{◌≡◌, ◌≤◌, take}
use Rattle.std.specs.Prelude.{slice_get, Some}
use Rattle.std.specs.List.{count_by}
use Rattle.ttx_source.specs.Services.{Authored}
use Rattle.ttx_plan.specs.SubpageTurns.{has_smaller_subcode}
use Rattle.ttx_plan.proofs.subpage_turns.rank.Given as goal

abbrev pub invariant-loop-other : goal.invariant-loop-other
invariant-loop-other l = record {
  value : (p : Authored) → slice_get l.service.pages l.index ≡ Some p → l.count ≡ count_by (has_smaller_subcode p) (take l.other l.service.pages);
  few : l.count ≤ l.other;
}
