use Rattle.ttx_playout.proofs.SentEditions as L
use Rattle.ttx_playout.proofs.laws.more_is_same.Goals as goal

pub returns : goal.returns
returns c = L.more_is_same
