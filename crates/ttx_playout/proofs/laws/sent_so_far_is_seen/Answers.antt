use Rattle.ttx_playout.proofs.SeenWhileOn as L
use Rattle.ttx_playout.proofs.laws.sent_so_far_is_seen.Goals as goal

pub returns : goal.returns
returns c =
    L.sent_so_far_is_seen (record {
      turn = c.each_slot_turns.ensures;
      bring = c.agreeing_streams_bring.ensures;
      carry = c.agreeing_streams_carry.ensures;
      accepted = c.accepted_is_carried.ensures;
      common = c.common_is_carried.ensures;
    }) c.carried_is_seen.ensures
