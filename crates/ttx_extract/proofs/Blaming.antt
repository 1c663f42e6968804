-- Why pages aren't sent unchanged is an answer of `check`.
use Rattle.std.proofs.Common.{ℕ, List}
use Rattle.ttx_extract.specs.Extracts.{Blames}
use Rattle.ttx_extract.specs.Gathering.{IsBlame}
use Rattle.ttx_extract.specs.declared.faults.ExtractFault.{ExtractFault}
use Rattle.ttx_extract.specs.declared.faults.ExtractFault.TheVariants.{Conflict, Reason, Info, Service, TooLong, Unsaid, NoMemory}

pub blamed : (slots : List (List ℕ)) (lines : ℕ) (fault : ExtractFault) → Blames slots lines fault → IsBlame slots lines fault
blamed slots lines (Conflict page item first second) b = b
blamed slots lines (Reason reason) b = b
blamed slots lines (Info slot) b = absurd b
blamed slots lines (Service error) b = absurd b
blamed slots lines TooLong b = absurd b
blamed slots lines Unsaid b = absurd b
blamed slots lines NoMemory b = absurd b
