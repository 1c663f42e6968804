use Rattle.std.proofs.Common.{◌≡◌, ℕ, ◌+◌, ◌%◌, ◌<◌, false}
use Rattle.ttx_plan.specs.Cursors.{is_free}
use Rattle.ttx_plan.proofs.cursors.Cursors.turn.Given as goal

abbrev pub invariant-loop-step : goal.invariant-loop-step
invariant-loop-step l = (k : ℕ) → k < l.step → is_free l.queues l.self l.at ((l.self.from + k) % 8) ≡ false
