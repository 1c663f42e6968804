use Rattle.ttx_cycle.specs.Cycles.{slots_of}
use Rattle.ttx_monitor.specs.Starting.{IsLikely}
use Rattle.ttx_monitor.proofs.feed_start.likely_start.Given as goal

abbrev pub invariant-loop-n : goal.invariant-loop-n
invariant-loop-n l = IsLikely (slots_of l.cycle) l.head l.likely
