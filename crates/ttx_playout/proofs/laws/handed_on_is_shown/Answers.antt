use Rattle.ttx_playout.proofs.ShownWhileOn as L
use Rattle.ttx_playout.proofs.laws.handed_on_is_shown.Goals as goal

pub returns : goal.returns
returns c = L.handed_on_is_shown c.sent_so_far_is_shown.ensures
