use Rattle.ttx_rows.proofs.Speaks as L
use Rattle.ttx_rows.proofs.laws.storing_runs.Goals as goal

pub returns : goal.returns
returns c = L.storing_runs
