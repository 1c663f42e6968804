use Rattle.ttx_playout.proofs.SeenOnAir as L
use Rattle.ttx_playout.proofs.laws.handed_on_is_seen_on_air.Goals as goal

pub returns : goal.returns
returns c = L.handed_on_is_seen_on_air c.each_slot_turns.ensures c.air_is_received.ensures c.handed_on_is_seen.ensures
