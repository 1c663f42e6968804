-- What `replay` writes for a packet file, the text of a service and that of a counter-run.
--
--   replay_text, none_text    what goes out of a counter-run, and where there is none
--   IsReplayOf, IsReplay    what goes out for slots, pages and a counter-run
--   IsCounterText, IsNoCounter, ReadsCounter        the counter-run that a text is, why it is none, what is returned for it
--   IsNoReplay              why nothing goes out
--   IsReplaying, ReplaysText, Replays       the text about three files, the answer for them, and what is written for each answer; `Says` is the
--                           text about a cycle, pages and a counter-run, with the status
use Rattle.std.specs.Prelude.{◌≡◌, ◌⊎◌, ℕ, ◌<◌, ◌≤◌, List, [], ◌∷◌, ◌++◌, length, take, codes, string_bytes, ⊤, Option, Result, Ok, Err}
use Rattle.std.specs.Io.KnownBytes.{Appends, Keeps}
use Rattle.ttx_cycle.specs.Files.{IsPacketFile}
use Rattle.ttx_files.specs.Texts.{IsServiceText}
use Rattle.ttx_files.specs.declared.faults.FilesFault.TheVariants.{Write, NoMemory}
use Rattle.ttx_files.specs.declared.told.Told.{Told}
use Rattle.ttx_cycle.specs.Bounded.{most_bytes}
use Rattle.ttx_counter.specs.CounterReading.{read_counter_text}
use Rattle.ttx_counter.specs.Counters.{CounterRun, counter_run_of, IsCounterRun}
use Rattle.ttx_counter.specs.Replaying.{IsReplayed}
use Rattle.ttx_counter.specs.declared.counter.Counter.{Counter as CounterValue}
use Rattle.ttx_counter.specs.declared.counter_faults.CounterFault.TheVariants as fault
use Rattle.ttx_page.specs.Memories.{Memory, memory_of_page}
use Rattle.ttx_page.specs.Pages.{Page}
use Rattle.ttx_render.specs.View.{view_of}
use Rattle.ttx_source.specs.Services.{ServiceFields, pages_of}
use Rattle.ttx_tool.specs.Find.{IsNoFinding}
use Rattle.ttx_tool.specs.Refute.{counter_line}
use Rattle.ttx_lines.specs.UnlikeViews.{unlike_lines}
use Rattle.ttx_faults.specs.declared.faults.CounterFileFault.{CounterFileFault}
use Rattle.ttx_faults.specs.declared.faults.CounterFileFault.TheVariants as counter
use Rattle.ttx_faults.specs.declared.faults.ToolFault.{ToolFault}
use Rattle.ttx_faults.specs.declared.faults.ToolFault.TheVariants.{Files, Counter}

-- the line of the counter-run, and what its receiver shows differently from the page
abbrev pub replay_text : Page → CounterRun → Memory → List ℕ
replay_text page c m = counter_line page.id c ++ unlike_lines (view_of m) (view_of (memory_of_page page))

abbrev pub none_text : List ℕ
none_text = codes "not a counter-run" ++ 10 ∷ []

-- a counter-run, and what its receiver holds after it
pub record IsReplayOf (slots : List (List ℕ)) (pages : List Page) (c : CounterRun) (text : List ℕ) : Type 0 where
  pub memory : Memory
  pub replayed : IsReplayed slots pages c memory
  pub same : text ≡ replay_text replayed.is.page c memory

-- 0 for a counter-run, 1 for none
abbrev pub IsReplay : List (List ℕ) → List Page → CounterRun → List ℕ → ℕ → Type 0
IsReplay slots pages c text status =
    (IsReplayOf slots pages c text × (status ≡ 0)) ⊎ ((IsCounterRun slots pages c → ⊥) × (text ≡ none_text) × (status ≡ 1))

-- a text that isn't too long, and the counter-run that it says
pub record IsCounterText (bytes : List ℕ) (c : CounterRun) : Type 0 where
  pub most : length bytes ≤ most_bytes
  pub says : read_counter_text bytes ≡ Ok c

-- why a text is that of no counter-run
abbrev pub IsNoCounter : List ℕ → CounterFileFault → Type 0
IsNoCounter bytes counter.Read = ⊤
IsNoCounter bytes counter.TooLong = most_bytes < length bytes
IsNoCounter bytes (counter.Text f) = (length bytes ≤ most_bytes) × ((f ≡ fault.NoMemory) ⊎ (read_counter_text bytes ≡ Err f))

abbrev pub ReadsCounter : List ℕ → Result CounterValue ToolFault → Type 0
ReadsCounter bytes (Ok c) = IsCounterText bytes (counter_run_of c)
ReadsCounter bytes (Err (Counter f)) = IsNoCounter bytes f
ReadsCounter bytes (Err (Files NoMemory)) = ⊤
ReadsCounter bytes (Err _) = ⊥

-- why nothing is replayed: the counter-run isn't read, or an input before it
abbrev pub IsNoReplay : List ℕ → List ℕ → List ℕ → ToolFault → Type 0
IsNoReplay a b c (Counter f) = (slots : List (List ℕ)) × (service : ServiceFields) × IsPacketFile a slots × IsServiceText b service × IsNoCounter c f
IsNoReplay a b c fault = IsNoFinding a b fault

module _ (Says : List (List ℕ) → List Page → CounterRun → List ℕ → ℕ → Type 0) where
  -- what goes out of three files
  pub record IsReplaying (a b c : List ℕ) (text : List ℕ) (status : ℕ) : Type 0 where
    pub slots : List (List ℕ)
    pub service : ServiceFields
    pub run : CounterRun
    pub cycle_is : IsPacketFile a slots
    pub service_is : IsServiceText b service
    pub counter_is : IsCounterText c run
    pub told : Says slots (pages_of service) run text status

  abbrev pub ReplaysText : List ℕ → List ℕ → List ℕ → Result (Told ℕ) ToolFault → Type 0
  ReplaysText a b c (Ok told) = IsReplaying a b c (string_bytes told.line) told.verdict
  ReplaysText a b c (Err fault) = IsNoReplay a b c fault

  -- Ok: the text went out. A write fault: its first `written` bytes. Otherwise nothing, and why nothing is replayed.
  abbrev pub Replays : List ℕ → List ℕ → List ℕ → Option (List ℕ) → Option (List ℕ) → Result ℕ ToolFault → Type 0
  Replays a b c old new (Ok status) = (text : List ℕ) × IsReplaying a b c text status × Appends old new text
  Replays a b c old new (Err (Files (Write written))) =
      (text : List ℕ) × (status : ℕ) × IsReplaying a b c text status × (written < length text) × Appends old new (take written text)
  Replays a b c old new (Err fault) = IsNoReplay a b c fault × Keeps old new
