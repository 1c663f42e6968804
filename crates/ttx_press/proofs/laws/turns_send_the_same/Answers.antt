use Rattle.ttx_press.proofs.TurnedStreams as turned
use Rattle.ttx_press.proofs.laws.turns_send_the_same.Goals as goal

pub returns : goal.returns
returns c = turned.turns_send_the_same c.each_slot_turns.ensures
