use Rattle.ttx_tool.proofs.PlannedFiles.{planned_is_found}
use Rattle.ttx_tool.proofs.laws.planned_is_found.Goals as goal

pub returns : goal.returns
returns c = planned_is_found c.planned_cycles_are_accepted.ensures.found
