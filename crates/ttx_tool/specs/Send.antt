-- What `send` writes for the bytes of a packet file.
--
--   sent_file               the bytes of the fields, by a clock
--   Sends                   what was written for each answer
use Rattle.std.specs.Prelude.{ℕ, ◌<◌, List, length, take, Option, Result, Ok, Err}
use Rattle.std.specs.Io.KnownBytes.{Appends, Keeps}
use Rattle.ttx_arguments.specs.declared.orders.Sending.{Sending}
use Rattle.ttx_cycle.specs.Files.{file_of, IsPacketFile}
use Rattle.ttx_cycle.specs.Reading.{Judged}
use Rattle.ttx_send.specs.Airing.{Times, broadcast_by, sent_slots}
use Rattle.ttx_files.specs.declared.faults.FilesFault.TheVariants.{Cycle, Write}
use Rattle.ttx_faults.specs.declared.faults.ToolFault.{ToolFault}
use Rattle.ttx_faults.specs.declared.faults.ToolFault.TheVariants.{Files}

-- the slots from field `phase` of the repeated cycle on, which is sent when the clock starts
abbrev pub sent_file : List (List ℕ) → Times → Sending → List ℕ
sent_file slots times sending = file_of (sent_slots (broadcast_by slots sending.lines sending.phase times) sending.fields)

-- Ok: all fields went out. A write fault: the first `written` bytes of them. Otherwise nothing, and the file is refused as it is judged.
abbrev pub Sends : {U : Type 0} → List ℕ → Times → Sending → Option (List ℕ) → Option (List ℕ) → Result U ToolFault → Type 0
Sends bytes times sending old new (Ok _) = (slots : List (List ℕ)) × IsPacketFile bytes slots × Appends old new (sent_file slots times sending)
Sends bytes times sending old new (Err (Files (Write written))) =
    (slots : List (List ℕ)) × IsPacketFile bytes slots × (written < length (sent_file slots times sending))
    × Appends old new (take written (sent_file slots times sending))
Sends bytes times sending old new (Err (Files (Cycle fault))) = Judged bytes (Err fault) × Keeps old new
Sends bytes times sending old new (Err _) = ⊥
