use Rattle.ttx_playout.proofs.ShownWhileOn as L
use Rattle.ttx_playout.proofs.laws.head_end_is_shown.Goals as goal

pub returns : goal.returns
returns c = L.head_end_is_shown c.sent_so_far_is_shown.ensures
