use Rattle.ttx_send.proofs.Sendings as L
use Rattle.ttx_send.proofs.laws.sent_is_seen_so_far.Goals as goal

pub returns : goal.returns
returns c = L.sent_is_seen_so_far c.timed_is_sent_as.ensures c.each_slot_turns.ensures c.accepted_is_seen_so_far.ensures
