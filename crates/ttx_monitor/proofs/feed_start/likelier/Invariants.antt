use Rattle.ttx_cycle.specs.Cycles.{slots_of}
use Rattle.ttx_monitor.specs.Starting.{IsLikely}
use Rattle.ttx_monitor.proofs.feed_start.likelier.Given as goal

abbrev pub invariant-loop-j : goal.invariant-loop-j
invariant-loop-j l = IsLikely (slots_of l.cycle) l.head l.best
