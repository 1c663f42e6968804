use Rattle.ttx_certify.proofs.AcceptedIsSeen as L
use Rattle.ttx_certify.proofs.laws.accepted_is_seen.Goals as goal

pub returns : goal.returns
returns c =
    L.accepted_is_seen c.runs_are_seen.ensures
    (record {
      turn = c.each_slot_turns.ensures;
      move = c.streams_move.ensures;
      one_run = c.runs_are_unique.ensures;
      own = c.steady_sends_its_own.ensures;
    })
