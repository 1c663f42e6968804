use Rattle.ttx_page.proofs.Runs.{runs_are_unique}
use Rattle.ttx_page.proofs.laws.runs_are_unique.Goals as goal

pub returns : goal.returns
returns c = runs_are_unique
