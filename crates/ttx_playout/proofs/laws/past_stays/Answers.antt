use Rattle.ttx_playout.proofs.SentEditions as L
use Rattle.ttx_playout.proofs.laws.past_stays.Goals as goal

pub returns : goal.returns
returns c = L.past_stays
