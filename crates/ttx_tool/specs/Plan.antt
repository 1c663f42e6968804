-- What `plan` writes for the text of a service.
--
--   IsNoText                why a text is that of no service
--   IsPlan, HasNoPlan, IsNoPlan, PlansText      the slots that carry the service of a text
--   planned_line            the line that says how many slots there are
--   Plans                   what was written to the packet file and to the output, for each answer
use Rattle.std.specs.Prelude.{◌≡◌, ℕ, ◌<◌, ◌≤◌, Bool, List, [], ◌∷◌, ◌++◌, length, codes, ⊤, Option, Result, Ok, Err}
use Rattle.std.specs.Fmt.{decimal}
use Rattle.std.specs.Io.KnownBytes.{Keeps}
use Rattle.ttx_files.specs.Answers.{WritesBoth}
use Rattle.ttx_files.specs.Texts.{IsServiceText, ReadsService}
use Rattle.ttx_cycle.specs.Cycles.{slots_of}
use Rattle.ttx_cycle.specs.Files.{IsCycle, file_of}
use Rattle.ttx_cycle.specs.declared.cycles.Cycle.{Cycle as CycleValue}
use Rattle.ttx_page.specs.declared.class.Class.{Class}
use Rattle.ttx_plan.specs.Acceptance.{IsPlanned}
use Rattle.ttx_plan.specs.Blocks.{length_bound}
use Rattle.ttx_plan.specs.Carries.{Carries, blocks_sent}
use Rattle.ttx_plan.specs.declared.faults.PlanFault.{PlanFault}
use Rattle.ttx_plan.specs.declared.faults.PlanFault.TheVariants as plan
use Rattle.ttx_source.specs.Services.{ServiceFields}
use Rattle.ttx_files.specs.declared.faults.FilesFault.TheVariants.{Write}
use Rattle.ttx_faults.specs.declared.faults.ToolFault.{ToolFault}
use Rattle.ttx_faults.specs.declared.faults.ToolFault.TheVariants.{Files, Plan}

-- why a text is that of no service
abbrev pub IsNoText : List ℕ → ToolFault → Type 0
IsNoText bytes (Files fault) = ReadsService bytes (Err fault)
IsNoText bytes _ = ⊥

-- The slots carry the service of the text, which isn't too long, to receivers of the class, as a planned cycle; late: also to those that
-- show a page late.
pub record IsPlan (bytes : List ℕ) (late : Bool) (class : Class) (slots : List (List ℕ)) : Type 0 where
  pub service : ServiceFields
  pub text : IsServiceText bytes service
  pub few : length_bound service.lines (blocks_sent late class service.pages) ≤ 65536
  pub carries : Carries late class service slots
  pub planned : IsPlanned late class service slots
  pub is_cycle : IsCycle slots

abbrev pub planned_line : ℕ → List ℕ
planned_line count = codes "planned " ++ decimal count ++ codes " slots" ++ 10 ∷ []

-- why a service has no plan
abbrev pub HasNoPlan : Bool → Class → ServiceFields → PlanFault → Type 0
HasNoPlan late class service plan.NoPages = service.pages ≡ []
HasNoPlan late class service plan.TooLong = 65536 < length_bound service.lines (blocks_sent late class service.pages)
HasNoPlan late class service plan.NoMemory = ⊤

-- why a text has no plan: its service has none, or it is that of no service
abbrev pub IsNoPlan : List ℕ → Bool → Class → ToolFault → Type 0
IsNoPlan bytes late class (Plan fault) = (service : ServiceFields) × IsServiceText bytes service × HasNoPlan late class service fault
IsNoPlan bytes late class fault = IsNoText bytes fault

abbrev pub PlansText : List ℕ → Bool → Class → Result CycleValue ToolFault → Type 0
PlansText bytes late class (Ok cycle) = IsPlan bytes late class (slots_of cycle)
PlansText bytes late class (Err fault) = IsNoPlan bytes late class fault

-- Ok: the packet file of a plan and the line. A write fault: the first `written` bytes of both. Otherwise nothing, and why there is no plan.
abbrev pub Plans : List ℕ → Bool → Class → Option (List ℕ) → Option (List ℕ) → Option (List ℕ) → Option (List ℕ) → Result ℕ ToolFault → Type 0
Plans bytes late class file_old file_new old new (Ok status) =
    (status ≡ 0)
    × ((slots : List (List ℕ)) × IsPlan bytes late class slots
    × WritesBoth (file_of slots) (planned_line (length slots)) file_old file_new old new (Ok status))
Plans bytes late class file_old file_new old new (Err (Files (Write written))) =
    (slots : List (List ℕ)) × IsPlan bytes late class slots × WritesBoth {T = ℕ} (file_of slots) (planned_line
    (length slots)) file_old file_new old new (Err (Write written))
Plans bytes late class file_old file_new old new (Err fault) = IsNoPlan bytes late class fault × Keeps file_old file_new × Keeps old new
