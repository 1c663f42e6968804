use Rattle.ttx_counter.specs.Keys.{AreFlipped}
use Rattle.ttx_counter.proofs.keys.hit_slot.Given as goal

abbrev pub invariant-loop-i : goal.invariant-loop-i
invariant-loop-i l = AreFlipped l.keys l.hits.from l.i l.slot l.received
