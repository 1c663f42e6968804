use Rattle.std.proofs.Common.{◌≡◌, ◌≤◌, length}
use Rattle.ttx_plan.specs.Seen.{used_by}
use Rattle.ttx_plan.proofs.bounds.count_used.Given as goal

abbrev pub invariant-loop-queue : goal.invariant-loop-queue
invariant-loop-queue l = record { count : l.count ≡ length (used_by l.pages l.queue); few : l.count ≤ l.queue }
