use Rattle.ttx_page.proofs.Runs.{runs_rise}
use Rattle.ttx_page.proofs.laws.runs_rise.Goals as goal

pub returns : goal.returns
returns c = runs_rise
