use Rattle.std.proofs.Common.{◌≡◌, ◌++◌, replicate}
use Rattle.ttx_plan.proofs.slots.fill.Given as goal

abbrev pub invariant-loop : goal.invariant-loop
invariant-loop l = l.slots.items ≡ l.initial.slots.items ++ replicate l.counter (replicate 42 0)
