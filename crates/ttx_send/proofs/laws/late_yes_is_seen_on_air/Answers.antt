use Rattle.ttx_send.proofs.YesesOnAir as L
use Rattle.ttx_send.proofs.laws.late_yes_is_seen_on_air.Goals as goal

pub returns : goal.returns
returns c = L.late_yes_is_seen_on_air c.each_slot_turns.ensures c.air_is_received.ensures c.accepted_is_seen_on_air.ensures c.accepted_is_shown.ensures
