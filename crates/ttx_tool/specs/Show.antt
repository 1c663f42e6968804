-- What `show` writes for the bytes of a packet file.
--
--   has_matching_header, stays_fresh    whether a header that the selection matches came, and whether none did yet
--   no_page_line            the line where none came
--   shown_text, shown_status        what is shown of a memory, and the status
--   IsShownFile                 the slots of a packet file, over which the memory became the new one
--   HearsFile               the same, or why there are none
--   ShowsAfter, ShowsFile    what was written for each answer, of the memory that the receiver then holds, and of some such memory
use Rattle.std.specs.Prelude.{◌≡◌, ℕ, ◌<◌, pos, Bool, not, ◌&&◌, if◌then◌else◌, List, [], ◌∷◌, ◌++◌, length, take, codes, Option, Result, Ok, Err}
use Rattle.std.specs.Io.KnownBytes.{Appends, Keeps}
use Rattle.std.specs.List.{list_any}
use Rattle.ttx_cycle.specs.Files.{IsPacketFile}
use Rattle.ttx_cycle.specs.Reading.{Judged}
use Rattle.ttx_page.specs.Laws.{sent_from}
use Rattle.ttx_page.specs.Memories.{Memory}
use Rattle.ttx_page.specs.Packets.{packet_of}
use Rattle.ttx_page.specs.Streams.{repeated, heads_matched}
use Rattle.ttx_page.specs.declared.selection.Selection.{Selection}
use Rattle.ttx_picture.specs.Forms.{picture_of}
use Rattle.ttx_render.specs.View.{view_of}
use Rattle.ttx_tool.specs.Receive.{Tuning, Hears}
use Rattle.ttx_files.specs.declared.faults.FilesFault.{FilesFault}
use Rattle.ttx_files.specs.declared.faults.FilesFault.TheVariants.{Cycle, Write, NoMemory}
use Rattle.ttx_faults.specs.declared.faults.ToolFault.{ToolFault}
use Rattle.ttx_faults.specs.declared.faults.ToolFault.TheVariants.{Files}
use Rattle.ttx_arguments.specs.declared.orders.Look.{Look}

-- one of the slots is a header that the selection matches
abbrev pub has_matching_header : Selection → List (List ℕ) → Bool
has_matching_header sel slots = list_any (λ slot. heads_matched sel (packet_of slot)) slots

-- no such header came before, nor is one of the slots
abbrev pub stays_fresh : Selection → Memory → List (List ℕ) → Bool
stays_fresh sel old slots = old.fresh && not (has_matching_header sel slots)

abbrev pub no_page_line : List ℕ → List ℕ
no_page_line name = codes "no page " ++ name ++ 10 ∷ []

-- the View in the form that is asked for, where a header of the page came
abbrev pub shown_text : Look → Memory → List ℕ
shown_text look m = if m.fresh then no_page_line look.page.now else picture_of look.form look.reveal (view_of m)

abbrev pub shown_status : Memory → ℕ
shown_status m = if m.fresh then 1 else 0

-- The slots of a packet file, over which the memory became the new one: that which the receiver holds after them. It is fresh exactly where no
-- header of the page came.
pub record IsShownFile (t : Tuning) (holds : List (List ℕ) → Memory) (start count : ℕ) (bytes : List ℕ) (old new : Memory) : Type 0 where
  pub slots : List (List ℕ)
  pub file : IsPacketFile bytes slots
  pub run : Hears t slots start count old new
  pub same : new ≡ holds (sent_from (repeated slots) (pos start) count)
  pub fresh : new.fresh ≡ stays_fresh t.selection old (sent_from (repeated slots) (pos start) count)

-- the same, or why the file is refused
abbrev pub HearsFile : {U : Type 0} → Tuning → (List (List ℕ) → Memory) → ℕ → ℕ → List ℕ → Memory → Memory → Result U FilesFault → Type 0
HearsFile t holds start count bytes old new (Ok _) = IsShownFile t holds start count bytes old new
HearsFile t holds start count bytes old new (Err (Cycle fault)) = Judged bytes (Err fault) × (new ≡ old)
HearsFile t holds start count bytes old new (Err _) = ⊥

-- Ok: the View of the memory went out, or that no header of the page came. A write fault: the first `written` bytes of that. Otherwise
-- nothing, and the file is refused as it is judged.
abbrev pub ShowsAfter : Tuning → (List (List ℕ) → Memory) → ℕ → ℕ → Look → List ℕ → Memory → Memory → Option (List ℕ) → Option (List ℕ) →
    Result ℕ ToolFault → Type 0
ShowsAfter t holds start count look bytes held new before after (Ok status) =
    (status ≡ shown_status new) × IsShownFile t holds start count bytes held new × Appends before after (shown_text look new)
ShowsAfter t holds start count look bytes held new before after (Err (Files (Write written))) =
    IsShownFile t holds start count bytes held new × (written < length (shown_text look new))
    × Appends before after (take written (shown_text look new))
ShowsAfter t holds start count look bytes held new before after (Err (Files (Cycle fault))) = Judged bytes (Err fault) × (new ≡ held) × Keeps before after
ShowsAfter t holds start count look bytes held new before after (Err (Files NoMemory)) = Keeps before after
ShowsAfter t holds start count look bytes held new before after (Err _) = ⊥

-- the receiver goes with the call, so its new memory is some memory
abbrev pub ShowsFile : Tuning → (List (List ℕ) → Memory) → ℕ → ℕ → Look → List ℕ → Memory → Option (List ℕ) → Option (List ℕ) →
    Result ℕ ToolFault → Type 0
ShowsFile t holds start count look bytes held before after result =
    (new : Memory) × ShowsAfter t holds start count look bytes held new before after result
