use Rattle.ttx_late.proofs.AcceptedIsShown as L
use Rattle.ttx_late.proofs.laws.accepted_is_shown.Goals as goal

pub returns : goal.returns
returns c =
    L.accepted_is_shown c.runs_are_shown.ensures
    (record {
      turn = c.each_slot_turns.ensures;
      move = c.streams_move.ensures;
      one_run = c.runs_are_unique.ensures;
      own = c.steady_sends_its_own.ensures;
    })
