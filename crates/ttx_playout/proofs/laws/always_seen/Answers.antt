use Rattle.ttx_playout.proofs.SeenWhileOn as L
use Rattle.ttx_playout.proofs.laws.always_seen.Goals as goal

pub returns : goal.returns
returns c = L.always_seen c.handed_on_is_seen.ensures
