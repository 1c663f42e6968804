use Rattle.std.proofs.Common.{◌≡◌, take, map}
use Rattle.ttx_counter.specs.Magazines.{magazine_of}
use Rattle.ttx_counter.proofs.magazines.magazines_of.Given as goal

abbrev pub invariant-loop-slot : goal.invariant-loop-slot
invariant-loop-slot l = l.magazines.items ≡ map magazine_of (take l.slot-index l.slots)
