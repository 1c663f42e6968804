use Rattle.ttx_send.proofs.YesesOnAir as L
use Rattle.ttx_send.proofs.laws.spliced_is_seen_on_air.Goals as goal

pub returns : goal.returns
returns c = L.spliced_is_seen_on_air c.each_slot_turns.ensures c.air_is_received.ensures c.verdicts_mean.ensures
