-- What the answers of a plan say.
use Rattle.std.proofs.Common.{◌≡◌, Result, Ok, Err, ap}
use Rattle.std.specs.Prelude.{◌↔◌}
use Rattle.ttx_cycle.specs.declared.cycles.Cycle.{Cycle}
use Rattle.ttx_plan.specs.declared.faults.PlanFault.{PlanFault}

abbrev pub Answer : Type 0
Answer = Result Cycle PlanFault

pub is_so : {P : Type 0} (fault asked : PlanFault) → fault ≡ asked → ((◌≡◌ {A = Answer} (Err fault) (Err asked)) ↔ P) → P
is_so fault asked e iff = iff.0 (ap (λ f. Err f) e)
