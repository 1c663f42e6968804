use Rattle.ttx_late.proofs.AcceptedIsShown as L
use Rattle.ttx_late.proofs.laws.each_list_runs_late.Goals as goal

pub returns : goal.returns
returns c = L.each_list_runs_late
