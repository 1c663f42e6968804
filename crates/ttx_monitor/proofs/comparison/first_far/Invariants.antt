use Rattle.std.proofs.Common.{ℕ, ◌<◌, slice_index}
use Rattle.ttx_code.specs.Words.{Near}
use Rattle.ttx_monitor.proofs.comparison.first_far.Given as goal

abbrev pub invariant-loop-x : goal.invariant-loop-x
invariant-loop-x l = (x : ℕ) → x < l.x → Near (slice_index l.sent x) (slice_index l.received x)
