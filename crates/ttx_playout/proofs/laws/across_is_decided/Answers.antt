use Rattle.ttx_playout.proofs.FollowedAcross as L
use Rattle.ttx_playout.proofs.laws.across_is_decided.Goals as goal

pub returns : goal.returns
returns c = L.across_is_decided
