use Rattle.ttx_playout.proofs.HeadEndIsSeen as L
use Rattle.ttx_playout.proofs.laws.head_end_is_seen.Goals as goal

pub returns : goal.returns
returns c = L.head_end_is_seen c.sent_so_far_is_seen.ensures
