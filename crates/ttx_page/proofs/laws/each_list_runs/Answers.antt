use Rattle.ttx_page.proofs.Choices.{each_list_runs}
use Rattle.ttx_page.proofs.laws.each_list_runs.Goals as goal

pub returns : goal.returns
returns c = each_list_runs
