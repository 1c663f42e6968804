use Rattle.ttx_page.proofs.Choices.{scripted_runs}
use Rattle.ttx_page.proofs.laws.scripted_runs.Goals as goal

pub returns : goal.returns
returns c = scripted_runs
