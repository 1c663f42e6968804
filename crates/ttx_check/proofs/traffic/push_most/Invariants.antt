use Rattle.std.proofs.Common.{◌≡◌, ◌++◌}
use Rattle.ttx_check.specs.Warnings.{most_to}
use Rattle.ttx_check.proofs.traffic.push_most.Given as goal

abbrev pub invariant-loop-above : goal.invariant-loop-above
invariant-loop-above l = l.found.items ≡ l.initial.found.items ++ most_to l.entries l.above
