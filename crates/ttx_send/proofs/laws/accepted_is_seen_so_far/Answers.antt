use Rattle.ttx_send.proofs.ReceivedFromAir as L
use Rattle.ttx_send.proofs.laws.accepted_is_seen_so_far.Goals as goal

pub returns : goal.returns
returns c = L.accepted_is_seen_so_far c.each_byte_is_near_itself.ensures c.empty_slots_are_empty.ensures c.each_slot_turns.ensures
    c.accepted_is_carried.ensures c.carried_is_seen.ensures
