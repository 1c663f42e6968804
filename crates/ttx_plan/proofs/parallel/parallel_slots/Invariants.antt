use Rattle.std.proofs.Common.{◌-◌, vec_len}
use Rattle.ttx_plan.specs.Cursors.{magazines_of}
use Rattle.ttx_plan.proofs.SchedulerState.{State}
use Rattle.ttx_plan.proofs.parallel.parallel_slots.Given as goal

abbrev pub invariant-loop-left : goal.invariant-loop-left
invariant-loop-left l = State (magazines_of l.lines l.info l.queues) l.cursors l.slots.items l.left

abbrev pub decreases-loop-left : goal.decreases-loop-left
decreases-loop-left l = 65536 - vec_len l.slots
