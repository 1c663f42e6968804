use Rattle.std.proofs.Common.{ℕ, ◌<◌, ◌≤◌}
use Rattle.ttx_cycle.specs.Cycles.{slots_of}
use Rattle.ttx_monitor.specs.Slips.{place_on, GoesOn}
use Rattle.ttx_monitor.proofs.slips.slip.Given as goal

abbrev pub invariant-loop-by : goal.invariant-loop-by
invariant-loop-by l = (less : ℕ) → 1 ≤ less → less < l.by → GoesOn (slots_of l.cycle) l.window (place_on (slots_of l.cycle) l.place less) → ⊥
