use Rattle.ttx_tool.proofs.TooLong.{planned_is_not_too_long}
use Rattle.ttx_tool.proofs.laws.planned_is_not_too_long.Goals as goal

pub returns : goal.returns
returns c = planned_is_not_too_long
