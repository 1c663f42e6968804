use Rattle.std.proofs.Common.{◌≤◌, ◌<◌, ℕ, map}
use Rattle.ttx_cycle.specs.Cycles.{slots_of}
use Rattle.ttx_page.specs.Views.{page_of}
use Rattle.ttx_possible.specs.Values.{HasDeadline}
use Rattle.ttx_possible.proofs.line_values.first_value.Given as goal

abbrev pub invariant-loop-lines : goal.invariant-loop-lines
invariant-loop-lines l = (m : ℕ) → 1 ≤ m → m < l.lines → HasDeadline (slots_of l.cycle) (map page_of l.pages) m → ⊥
