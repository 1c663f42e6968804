use Rattle.std.proofs.Common.{◌≡◌, ℕ, ◌<◌, ◌≤◌}
use Rattle.ttx_render.specs.Comparison.{cell_in}
use Rattle.ttx_render.proofs.compare.same_but_clock.Given as goal

abbrev pub invariant-loop-number : goal.invariant-loop-number
invariant-loop-number l = (number c : ℕ) → 1 ≤ number → number < l.number → c < 40 → cell_in l.a number c ≡ cell_in l.b number c
