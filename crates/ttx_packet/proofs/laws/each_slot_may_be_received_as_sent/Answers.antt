use Rattle.ttx_packet.proofs.Receptions.{received_as_sent}
use Rattle.ttx_packet.proofs.laws.each_slot_may_be_received_as_sent.Goals as goal

pub returns : goal.returns
returns c = received_as_sent c.each_byte_is_near_itself.ensures
