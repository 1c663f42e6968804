-- Faults of commands, and the devices that they are of.
--
--   read_from, written_to   a counted reader, and a counted writer, before and after a call
--   is_tool_write           the fault of a write: after any other a writer is unchanged
--   failed_in, place_of     the place of which a fault says that its device failed, and that of the file which it is of
--   failed_at               the same for an answer
--   IsFaultOf               a fault is of a file of one of these devices; that of a device is of the first that failed
--   Fails, Reads            a command's faults are of its devices; those of inputs, which are as they should be if all are read
use Rattle.std.specs.Prelude.{ℕ, Bool, false, List, map, ⊤, Option, Some, None, Result, Ok, Err}
use Rattle.ttx_cycle.specs.Counters.{inner_of, faults_of}
use Rattle.ttx_cycle.specs.declared.counted.Counted.{Counted}
use Rattle.ttx_files.specs.Answers.{is_write}
use Rattle.ttx_files.specs.Devices as files
use Rattle.ttx_files.specs.Devices.{Place, AtCounter, AtFeed, Device, input, output, AllRight, IsAmong, IsFirstFailure}
use Rattle.ttx_faults.specs.declared.faults.CounterFileFault.TheVariants as counter
use Rattle.ttx_faults.specs.declared.faults.ToolFault.{ToolFault}
use Rattle.ttx_faults.specs.declared.faults.ToolFault.TheVariants.{Files, Counter, Feed}

abbrev pub read_from : {R : Type 0} → Place → (R → Option (List ℕ)) → Counted R → Counted R → Device
read_from place remaining before after = input place (remaining (inner_of before)) (faults_of before) (faults_of after)

abbrev pub written_to : {W : Type 0} → Counted W → Counted W → Device
written_to before after = output (faults_of before) (faults_of after)

abbrev pub is_tool_write : ToolFault → Bool
is_tool_write (Files fault) = is_write fault
is_tool_write _ = false

abbrev pub failed_in : ToolFault → Option Place
failed_in (Files fault) = files.failed_at {T = ⊤} (Err fault)
failed_in (Counter counter.Read) = Some AtCounter
failed_in Feed = Some AtFeed
failed_in _ = None

abbrev pub place_of : ToolFault → Option Place
place_of (Files fault) = files.place_of fault
place_of (Counter fault) = Some AtCounter
place_of Feed = Some AtFeed
place_of _ = None

abbrev pub failed_at : {T : Type 0} → Result T ToolFault → Option Place
failed_at (Ok _) = None
failed_at (Err fault) = failed_in fault

abbrev pub IsFaultOf : List Device → ToolFault → Type 0
IsFaultOf devices fault = IsFirstFailure devices (failed_in fault) × IsAmong (map (λ d. d.place) devices) (place_of fault)

abbrev pub Fails : {T : Type 0} → List Device → Result T ToolFault → Type 0
Fails devices (Ok _) = IsFirstFailure devices None
Fails devices (Err fault) = IsFaultOf devices fault

abbrev pub Reads : {T : Type 0} → List Device → Result T ToolFault → Type 0
Reads devices (Ok _) = IsFirstFailure devices None × AllRight devices
Reads devices (Err fault) = IsFaultOf devices fault
