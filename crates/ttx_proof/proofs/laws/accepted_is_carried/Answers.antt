use Rattle.ttx_proof.proofs.CarriedIsSeen as L
use Rattle.ttx_proof.proofs.laws.accepted_is_carried.Goals as goal

pub returns : goal.returns
returns c =
    L.accepted_is_carried (record {
      turn = c.each_slot_turns.ensures;
      move = c.streams_move.ensures;
      one_run = c.runs_are_unique.ensures;
      own = c.steady_sends_its_own.ensures;
    })
