-- Laws of what `plan` answers.
--
--   PlannedIsNotTooLong     the text of a service that has a plan isn't refused as too long
use Rattle.std.specs.Prelude.{ℕ, Bool, List}
use Rattle.ttx_page.specs.declared.class.Class.{Class}
use Rattle.ttx_plan.specs.declared.faults.PlanFault.TheVariants as plan
use Rattle.ttx_tool.specs.Plan.{IsPlan, IsNoPlan}
use Rattle.ttx_faults.specs.declared.faults.ToolFault.TheVariants.{Plan}

abbrev pub PlannedIsNotTooLong : Type 0
PlannedIsNotTooLong =
    (bytes : List ℕ) (late : Bool) (class : Class) (slots : List (List ℕ)) → IsPlan bytes late class slots →
    IsNoPlan bytes late class (Plan plan.TooLong) → ⊥
