-- What `pages` writes for the bytes of a packet file.
--
--   WritesTextOf            what has been written, for each answer
use Rattle.std.specs.Prelude.{ℕ, ◌<◌, List, length, take, Option, Result, Ok, Err}
use Rattle.std.specs.Io.KnownBytes.{Appends, Keeps}
use Rattle.ttx_cycle.specs.Files.{IsPacketFile}
use Rattle.ttx_cycle.specs.Reading.{Judged}
use Rattle.ttx_files.specs.declared.faults.FilesFault.{FilesFault}
use Rattle.ttx_files.specs.declared.faults.FilesFault.TheVariants.{Cycle, Write, NoMemory}

-- Ok: the text of the slots was written. A write fault: its first `written` bytes. Any other fault: nothing, and the file is refused as judged.
abbrev pub WritesTextOf : {U : Type 0} → (List (List ℕ) → List ℕ) → List ℕ → Option (List ℕ) → Option (List ℕ) → Result U FilesFault → Type 0
WritesTextOf text bytes old new (Ok _) = (slots : List (List ℕ)) × IsPacketFile bytes slots × Appends old new (text slots)
WritesTextOf text bytes old new (Err (Write written)) =
    (slots : List (List ℕ)) × IsPacketFile bytes slots × (written < length (text slots)) × Appends old new (take written (text slots))
WritesTextOf text bytes old new (Err (Cycle fault)) = Judged bytes (Err fault) × Keeps old new
WritesTextOf text bytes old new (Err NoMemory) = Keeps old new
WritesTextOf text bytes old new (Err _) = ⊥
