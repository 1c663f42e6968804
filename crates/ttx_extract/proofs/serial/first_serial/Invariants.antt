use Rattle.std.proofs.Common.{◌≡◌, drop}
use Rattle.ttx_cycle.specs.Cycles.{slots_of}
use Rattle.ttx_extract.specs.FirstPackets.{first_serial}
use Rattle.ttx_extract.proofs.serial.first_serial.Given as goal

abbrev pub invariant-loop-slot : goal.invariant-loop-slot
invariant-loop-slot l = first_serial (slots_of l.cycle) ≡ first_serial (drop l.slot (slots_of l.cycle))
