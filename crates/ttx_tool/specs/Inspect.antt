-- What `inspect` writes for the bytes of a packet file.
--
--   Inspects         what was written for each answer
use Rattle.std.specs.Prelude.{ℕ, ◌<◌, List, length, take, Option, Result, Ok, Err}
use Rattle.std.specs.Io.KnownBytes.{Appends, Keeps}
use Rattle.ttx_cycle.specs.Files.{IsPacketFile}
use Rattle.ttx_cycle.specs.Reading.{Judged}
use Rattle.ttx_files.specs.declared.faults.FilesFault.TheVariants.{Cycle, Write, NoMemory}
use Rattle.ttx_lines.specs.Lines.{lines_from}
use Rattle.ttx_faults.specs.declared.faults.ToolFault.{ToolFault}
use Rattle.ttx_faults.specs.declared.faults.ToolFault.TheVariants.{Files}

-- Ok: the lines of the slots went out. A write fault: the first `written` bytes of them. Otherwise nothing, and the file is refused as it is judged.
abbrev pub Inspects : {U : Type 0} → List ℕ → Option (List ℕ) → Option (List ℕ) → Result U ToolFault → Type 0
Inspects bytes old new (Ok _) = (slots : List (List ℕ)) × IsPacketFile bytes slots × Appends old new (lines_from 0 slots)
Inspects bytes old new (Err (Files (Write written))) =
    (slots : List (List ℕ)) × IsPacketFile bytes slots × (written < length (lines_from 0 slots)) × Appends old new (take written (lines_from 0 slots))
Inspects bytes old new (Err (Files (Cycle fault))) = Judged bytes (Err fault) × Keeps old new
Inspects bytes old new (Err (Files NoMemory)) = Keeps old new
Inspects bytes old new (Err _) = ⊥
