-- The text of a service with promises and stays, and what `plan` with spread rounds writes for it.
--
--   IsStayingText           the service, the promises and the stays of a text
--   IsStayingFaultBy, DefinesStayingBy      why there are none, by how the three are read, and what is returned
--   IsStayingFault, DefinesStaying, IsNoStayingText, ReadsStaying       the same for a text, and for one that is read
--   Plans                   what is planned for the service of a text
--   missed_text, Refuses, SaysFault         the lines of what no plan keeps; the fault in their place; the answer where there is no plan
--   IsNoSpread, Spreads     why a text has no plan; what is returned for a text
--   WritesPlan, PlansSpread what was written to the packet file and to the output, for each answer
use Rattle.std.specs.Prelude.{◌≡◌, ◌⊎◌, ℕ, ◌≤◌, List, map, length, string_bytes, String, Option, Some, None, Result, Ok, Err}
use Rattle.std.specs.Io.KnownBytes.{Keeps}
use Rattle.std.specs.declared.alloc.Global.{Global}
use Rattle.ttx_carousel.specs.Planning.{AnswersStays}
use Rattle.ttx_carousel.specs.StayLines.{stay_lines, missed_line}
use Rattle.ttx_carousel.specs.declared.faults.StayFault.{StayFault}
use Rattle.ttx_carousel.specs.declared.faults.StayFault.TheVariants.{Promise, TooLong, Short, Missed, NoMemory}
use Rattle.ttx_cycle.specs.Bounded.{most_bytes}
use Rattle.ttx_cycle.specs.Cycles.{slots_of}
use Rattle.ttx_cycle.specs.Files.{file_of}
use Rattle.ttx_cycle.specs.declared.cycles.Cycle.{Cycle}
use Rattle.ttx_files.specs.Answers.{WritesBoth}
use Rattle.ttx_files.specs.declared.faults.FilesFault.TheVariants as files
use Rattle.ttx_plan.specs.declared.faults.PlanFault.{PlanFault}
use Rattle.ttx_plan.specs.declared.faults.PlanFault.TheVariants as plan
use Rattle.ttx_promise.specs.PromiseLines.{late_lines}
use Rattle.ttx_promise.specs.Views.{late_view}
use Rattle.ttx_promise.specs.declared.faults.PromiseFault.TheVariants as promise
use Rattle.ttx_promise.specs.declared.promised_plan.Viewers.{Viewers}
use Rattle.ttx_source.specs.Faults.{fault_of}
use Rattle.ttx_source.specs.PromiseViews.{promise_view}
use Rattle.ttx_source.specs.Promises.{PromiseFields, read_promises, read_stays}
use Rattle.ttx_source.specs.Services.{ServiceFields, read_bytes}
use Rattle.ttx_source.specs.Values.{Fault}
use Rattle.ttx_source.specs.declared.faults.SourceError.{SourceError}
use Rattle.ttx_tool.specs.Plan.{IsNoText, planned_line}
use Rattle.ttx_tool.specs.Promised.{IsPromisedText, IsFaultBy}
use Rattle.ttx_faults.specs.Reports.{Reports}
use Rattle.ttx_tool.specs.declared.commands.plan_spread.Spread.{Spread}
use Rattle.ttx_tool.specs.declared.commands.plan_spread.Spread.TheVariants as spread
use Rattle.ttx_tool.specs.declared.commands.stays.Staying.{Staying}
use Rattle.ttx_faults.specs.declared.faults.ToolFault.{ToolFault}
use Rattle.ttx_faults.specs.declared.faults.ToolFault.TheVariants.{Files, Plan}

pub record IsStayingText (bytes : List ℕ) (service : ServiceFields) (promises stays : List PromiseFields) : Type 0 where
  pub promised : IsPromisedText bytes service promises
  pub staying : read_stays bytes ≡ Ok stays

-- the service or a promise is refused, or a stay is
abbrev pub IsStayingFaultBy : Result ServiceFields (Fault × ℕ) → (promised staying : Result (List PromiseFields) (Fault × ℕ)) → SourceError → Type 0
IsStayingFaultBy read promised staying error =
    IsFaultBy read promised error
    ⊎ ((service : ServiceFields) × (promises : List PromiseFields) × (read ≡ Ok service) × (promised ≡ Ok promises)
    × (staying ≡ Err (fault_of error.fault, error.page)))

abbrev pub DefinesStayingBy : Result ServiceFields (Fault × ℕ) → (promised staying : Result (List PromiseFields) (Fault × ℕ)) →
    Result Staying SourceError → Type 0
DefinesStayingBy read promised staying (Ok found) =
    (read ≡ Ok found.promised.service)
    × (promised ≡ Ok (map promise_view found.promised.promises.items))
    × (staying ≡ Ok (map promise_view found.stays.items))
DefinesStayingBy read promised staying (Err error) = IsStayingFaultBy read promised staying error

abbrev pub IsStayingFault : List ℕ → SourceError → Type 0
IsStayingFault bytes = IsStayingFaultBy (read_bytes bytes) (read_promises bytes) (read_stays bytes)

abbrev pub DefinesStaying : List ℕ → Result Staying SourceError → Type 0
DefinesStaying bytes = DefinesStayingBy (read_bytes bytes) (read_promises bytes) (read_stays bytes)

abbrev pub IsNoStayingText : List ℕ → ToolFault → Type 0
IsNoStayingText bytes (Files (files.Service error)) = (length bytes ≤ most_bytes) × IsStayingFault bytes error
IsNoStayingText bytes fault = IsNoText bytes fault

abbrev pub ReadsStaying : List ℕ → Result Staying ToolFault → Type 0
ReadsStaying bytes (Ok staying) =
    IsStayingText bytes staying.promised.service (map promise_view staying.promised.promises.items) (map promise_view staying.stays.items)
ReadsStaying bytes (Err fault) = IsNoStayingText bytes fault

-- the plan of the service of a text, or why there is none
pub record Plans (bytes : List ℕ) (v : Viewers) (answer : Result Cycle StayFault) : Type 0 where
  pub service : ServiceFields
  pub promises : List PromiseFields
  pub stays : List PromiseFields
  pub text : IsStayingText bytes service promises stays
  pub sent : ServiceFields
  pub answered : AnswersStays v promises stays service sent answer

abbrev pub missed_text : StayFault → Option (List ℕ)
missed_text (Promise (promise.Late pages)) = Some (late_lines (map late_view pages.items))
missed_text (Promise promise.NoPages) = None
missed_text (Promise promise.TooLong) = None
missed_text (Promise promise.NoMemory) = None
missed_text TooLong = None
missed_text (Short numbers) = Some (stay_lines numbers.items)
missed_text (Missed missed) = Some (missed_line missed)
missed_text NoMemory = None

-- why there is no plan, as a fault
abbrev pub Refuses : StayFault → PlanFault → Type 0
Refuses fault plan.NoPages = fault ≡ Promise promise.NoPages
Refuses fault plan.TooLong = (fault ≡ Promise promise.TooLong) ⊎ (fault ≡ TooLong)
Refuses fault plan.NoMemory = ⊥

abbrev pub SaysFault : StayFault → Result Spread ToolFault → Type 0
SaysFault fault result =
    ((text : String Global) × (result ≡ Ok (spread.Missed text)) × (missed_text fault ≡ Some (string_bytes text)))
    ⊎ ((why : PlanFault) × (result ≡ Err (Plan why)) × Refuses fault why)
    ⊎ (result ≡ Err (Files files.NoMemory))

abbrev pub IsNoSpread : List ℕ → Viewers → ToolFault → Type 0
IsNoSpread bytes v (Plan why) = (fault : StayFault) × Plans bytes v (Err fault) × Refuses fault why
IsNoSpread bytes v fault = IsNoStayingText bytes fault

-- what a plan misses, as lines
abbrev pub IsMissedText : List ℕ → Viewers → List ℕ → Type 0
IsMissedText bytes v text = (fault : StayFault) × Plans bytes v (Err fault) × (missed_text fault ≡ Some text)

abbrev pub Spreads : List ℕ → Viewers → Result Spread ToolFault → Type 0
Spreads bytes v (Ok (spread.Kept cycle)) = Plans bytes v (Ok cycle)
Spreads bytes v (Ok (spread.Missed text)) = IsMissedText bytes v (string_bytes text)
Spreads bytes v (Err fault) = IsNoSpread bytes v fault

-- the packet file of a plan and its line, or the first `written` bytes of both, or nothing
abbrev pub WritesPlan : List (List ℕ) → Option (List ℕ) → Option (List ℕ) → Option (List ℕ) → Option (List ℕ) → Result ℕ ToolFault → Type 0
WritesPlan slots file_old file_new old new (Ok status) =
    (status ≡ 0) × WritesBoth (file_of slots) (planned_line (length slots)) file_old file_new old new (Ok status)
WritesPlan slots file_old file_new old new (Err (Files (files.Write written))) =
    WritesBoth {T = ℕ} (file_of slots) (planned_line (length slots)) file_old file_new old new (Err (files.Write written))
WritesPlan slots file_old file_new old new (Err (Files files.NoMemory)) = Keeps file_old file_new × Keeps old new
WritesPlan slots file_old file_new old new (Err _) = ⊥

-- a plan that keeps all is written; or only the lines of what no plan keeps, with status 1; or nothing, and why not
abbrev pub PlansSpread : List ℕ → Viewers → Option (List ℕ) → Option (List ℕ) → Option (List ℕ) → Option (List ℕ) → Result ℕ ToolFault → Type 0
PlansSpread bytes v file_old file_new old new result =
    ((cycle : Cycle) × Plans bytes v (Ok cycle) × WritesPlan (slots_of cycle) file_old file_new old new result)
    ⊎ ((text : List ℕ) × IsMissedText bytes v text × Keeps file_old file_new × Reports text 1 old new result)
    ⊎ ((fault : ToolFault) × (result ≡ Err fault) × IsNoSpread bytes v fault × Keeps file_old file_new × Keeps old new)
