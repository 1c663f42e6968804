use Rattle.std.proofs.Common.{◌≡◌, ℕ, ◌<◌, false}
use Rattle.std.specs.Prelude.{slice_get, Some}
use Rattle.ttx_source.specs.Services.{Authored}
use Rattle.ttx_plan.specs.SubpageTurns.{take_turns}
use Rattle.ttx_plan.proofs.subpage_turns.first_of_turns.Given as goal

abbrev pub invariant-loop-other : goal.invariant-loop-other
invariant-loop-other l = (p : Authored) → slice_get l.service.pages l.index ≡ Some p →
    (k : ℕ) (q : Authored) → k < l.other → slice_get l.service.pages k ≡ Some q → take_turns p q ≡ false
