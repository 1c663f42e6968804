use Rattle.ttx_playout.proofs.FollowedEditions as L
use Rattle.ttx_playout.proofs.laws.through_goes_on.Goals as goal

pub returns : goal.returns
returns c = L.through_goes_on
