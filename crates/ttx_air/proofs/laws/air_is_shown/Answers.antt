use Rattle.ttx_air.proofs.SeenFromAir as L
use Rattle.ttx_air.proofs.laws.air_is_shown.Goals as goal

pub returns : goal.returns
returns c = L.air_is_shown c.each_slot_turns.ensures c.timed_is_sent_as.ensures c.air_is_received.ensures c.sent_so_far_is_shown.ensures
