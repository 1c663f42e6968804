use Rattle.ttx_broadcast.proofs.ReplayedEndings as L
use Rattle.ttx_broadcast.proofs.laws.endings_are_replayed.Goals as goal

pub returns : goal.returns
returns c = L.endings_are_replayed c.endings_are_decided.ensures
