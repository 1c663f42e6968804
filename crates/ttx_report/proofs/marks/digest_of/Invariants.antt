use Rattle.std.proofs.Common.{take}
use Rattle.sha2.specs.Hashers.{Holds256}
use Rattle.ttx_cycle.specs.Files.{file_of}
use Rattle.ttx_report.proofs.marks.digest_of.Given as goal

abbrev pub invariant-loop-slot : goal.invariant-loop-slot
invariant-loop-slot l = Holds256 l.hasher (file_of (take l.slot-index l.cycle.slots.items))
