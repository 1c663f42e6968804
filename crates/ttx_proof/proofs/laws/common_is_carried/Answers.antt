use Rattle.ttx_proof.proofs.BridgedIsSeen as L
use Rattle.ttx_proof.proofs.laws.common_is_carried.Goals as goal

pub returns : goal.returns
returns c =
    L.common_is_carried (record {
      turn = c.each_slot_turns.ensures;
      move = c.streams_move.ensures;
      one_run = c.runs_are_unique.ensures;
      own = c.steady_sends_its_own.ensures;
      one_owner = c.owners_are_unique.ensures;
      first = c.owners_come_first.ensures;
      fall = c.owners_dont_fall.ensures;
    })
