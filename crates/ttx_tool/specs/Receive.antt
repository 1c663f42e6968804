-- What `receive` writes for the bytes of a packet file.
--
--   Tuning                  what a receiver is set to: its class, the slots in a field, and its selection
--   class_of, takes_choices         the class of a receiver of a kind, and whether it takes the choices that it has
--   tuned_to, held_by       what a receiver that is asked for is set to, and what it holds after some slots, with nothing received before
--   Hears                   what it makes of some slots of a cycle that is sent again and again
--   IsReceivedFile          the same for a packet file, and which memory that is
--   Receives                what was written for each answer
use Rattle.std.specs.Prelude.{◌≡◌, ℕ, ◌<◌, pos, Bool, true, false, List, fold, length, take, Option, Result, Ok, Err}
use Rattle.std.specs.Io.KnownBytes.{Appends, Keeps}
use Rattle.ttx_cycle.specs.Files.{IsPacketFile}
use Rattle.ttx_cycle.specs.Reading.{Judged}
use Rattle.ttx_arguments.specs.declared.orders.ReceiverKind.{ReceiverKind}
use Rattle.ttx_arguments.specs.declared.orders.ReceiverKind.TheVariants.{Eager, Careful, Cleared}
use Rattle.ttx_arguments.specs.declared.orders.Tuning.{Tuning as AskedTuning}
use Rattle.ttx_page.specs.Laws.{sent_from}
use Rattle.ttx_page.specs.Memories.{Memory, blank_memory}
use Rattle.ttx_page.specs.Receivers.{Run}
use Rattle.ttx_page.specs.Streams.{repeated}
use Rattle.ttx_page.specs.declared.class.Class.{Class}
use Rattle.ttx_page.specs.declared.class.Class.TheVariants.{Any, Clearing}
use Rattle.ttx_page.specs.declared.selection.Selection.{Selection}
use Rattle.ttx_receiver.specs.Tuning.{stepped, tuned_at}
use Rattle.ttx_render.specs.View.{view_of}
use Rattle.ttx_lines.specs.ViewLines.{view_lines}
use Rattle.ttx_files.specs.declared.faults.FilesFault.TheVariants.{Cycle, Write, NoMemory}
use Rattle.ttx_faults.specs.declared.faults.ToolFault.{ToolFault}
use Rattle.ttx_faults.specs.declared.faults.ToolFault.TheVariants.{Files}

pub record Tuning : Type 0 where
  pub class : Class
  pub lines : ℕ
  pub selection : Selection

abbrev pub tuned_as : Class → ℕ → Selection → Tuning
tuned_as class lines selection = record { class = class; lines = lines; selection = selection }

abbrev pub class_of : ReceiverKind → Class
class_of Eager = Any
class_of Careful = Any
class_of Cleared = Clearing

-- a careful receiver takes each choice that it has, the others none
abbrev pub takes_choices : ReceiverKind → Bool
takes_choices Eager = false
takes_choices Careful = true
takes_choices Cleared = false

abbrev pub tuned_to : AskedTuning → Tuning
tuned_to asked = tuned_as (class_of asked.kind) asked.lines asked.selection

-- `stepped` is the step of each kind of receiver, with its class and its choice.
abbrev pub held_by : AskedTuning → List (List ℕ) → Memory
held_by asked sent = (fold (stepped (class_of asked.kind) (takes_choices asked.kind)) (tuned_at asked.selection asked.lines blank_memory) sent).memory

-- The memory may become the new one over `count` slots of the cycle from slot `start` on, which counts round the cycle.
abbrev pub Hears : Tuning → List (List ℕ) → ℕ → ℕ → Memory → Memory → Type 0
Hears t slots start count old new = Run t.class t.lines t.selection old (sent_from (repeated slots) (pos start) count) new

-- the slots of a packet file, over which the memory became the new one: that which the receiver holds after them
pub record IsReceivedFile (t : Tuning) (holds : List (List ℕ) → Memory) (start count : ℕ) (bytes : List ℕ) (old new : Memory) : Type 0 where
  pub slots : List (List ℕ)
  pub file : IsPacketFile bytes slots
  pub run : Hears t slots start count old new
  pub same : new ≡ holds (sent_from (repeated slots) (pos start) count)

-- Ok: the lines of the View of the memory that the receiver then holds went out. A write fault: the first `written` bytes of them. Otherwise nothing, and
-- the file is refused as it is judged.
abbrev pub Receives : Tuning → (List (List ℕ) → Memory) → ℕ → ℕ → List ℕ → Memory → Option (List ℕ) → Option (List ℕ) → Result ℕ ToolFault → Type 0
Receives t holds start count bytes held before after (Ok status) =
    (status ≡ 0) × ((new : Memory) × IsReceivedFile t holds start count bytes held new × Appends before after (view_lines (view_of new)))
Receives t holds start count bytes held before after (Err (Files (Write written))) =
    (new : Memory) × IsReceivedFile t holds start count bytes held new × (written < length (view_lines (view_of new)))
    × Appends before after (take written (view_lines (view_of new)))
Receives t holds start count bytes held before after (Err (Files (Cycle fault))) = Judged bytes (Err fault) × Keeps before after
Receives t holds start count bytes held before after (Err (Files NoMemory)) = Keeps before after
Receives t holds start count bytes held before after (Err _) = ⊥
