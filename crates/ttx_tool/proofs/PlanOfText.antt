-- The plan of a text, from what `plan_with` answers.
use Rattle.std.proofs.Common.{◌≡◌, ℕ, ◌<◌, ◌≤◌, ◌↔◌, Bool, List, Result, Ok, Err, sym, ◌∙◌, arith}
use Rattle.ttx_files.specs.Texts.{IsServiceText}
use Rattle.ttx_cycle.specs.Cycles.{slots_of, slots_of-IsCycle}
use Rattle.ttx_cycle.specs.declared.cycles.Cycle.{Cycle as CycleValue}
use Rattle.ttx_page.specs.declared.class.Class.{Class}
use Rattle.ttx_plan.specs.Acceptance.{IsPlanned}
use Rattle.ttx_plan.specs.Blocks.{length_bound}
use Rattle.ttx_plan.specs.Carries.{Carries, blocks_sent}
use Rattle.ttx_plan.specs.declared.faults.PlanFault.{PlanFault}
use Rattle.ttx_plan.specs.declared.faults.PlanFault.TheVariants as plan
use Rattle.ttx_source.specs.Services.{ServiceFields}
use Rattle.ttx_tool.specs.Plan.{IsPlan}

-- a plan that is answered is not above the bound
within : (bound : ℕ) (result : Result CycleValue PlanFault) (cycle : CycleValue) → result ≡ Ok cycle →
    ((result ≡ Err plan.TooLong) ↔ (65536 < bound)) → bound ≤ 65536
within bound result cycle is told =
    let never : 65536 < bound → ⊥ = λ long. let same : Ok cycle ≡ Err plan.TooLong = sym is ∙ told.1 long in cc in
    omega (arith, never)

pub plan_of : (bytes : List ℕ) (late : Bool) (class : Class) (service : ServiceFields) (cycle : CycleValue) →
    (result : Result CycleValue PlanFault) → result ≡ Ok cycle → IsServiceText bytes service →
    Carries late class service (slots_of cycle) → IsPlanned late class service (slots_of cycle) →
    ((result ≡ Err plan.TooLong) ↔ (65536 < length_bound service.lines (blocks_sent late class service.pages))) →
    IsPlan bytes late class (slots_of cycle)
plan_of bytes late class service cycle result is text carries planned told = record {
  service = service;
  text = text;
  few = within (length_bound service.lines (blocks_sent late class service.pages)) result cycle is told;
  carries = carries;
  planned = planned;
  is_cycle = slots_of-IsCycle cycle;
}
