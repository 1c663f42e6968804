use Rattle.ttx_playout.proofs.SeenWhileOn as L
use Rattle.ttx_playout.proofs.laws.handed_on_is_seen.Goals as goal

pub returns : goal.returns
returns c = L.handed_on_is_seen c.sent_so_far_is_seen.ensures
