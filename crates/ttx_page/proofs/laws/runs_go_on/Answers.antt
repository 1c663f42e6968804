use Rattle.ttx_page.proofs.RunsOneSlotOn.{runs_go_on}
use Rattle.ttx_page.proofs.laws.runs_go_on.Goals as goal

pub returns : goal.returns
returns c = runs_go_on
