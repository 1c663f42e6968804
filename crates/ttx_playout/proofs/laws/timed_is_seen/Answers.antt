use Rattle.ttx_playout.proofs.SeenOnAir as L
use Rattle.ttx_playout.proofs.laws.timed_is_seen.Goals as goal

pub returns : goal.returns
returns c = L.timed_is_seen c.each_slot_turns.ensures c.timed_is_sent_as.ensures c.handed_on_is_seen_on_air.ensures
