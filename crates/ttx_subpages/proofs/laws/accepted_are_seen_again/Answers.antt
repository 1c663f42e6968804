use Rattle.ttx_subpages.proofs.AcceptedSubpages as L
use Rattle.ttx_subpages.proofs.laws.accepted_are_seen_again.Goals as goal

pub returns : goal.returns
returns c =
    L.accepted_are_seen_again c.blocks_are_seen.ensures
    (record {
      turn = c.each_slot_turns.ensures;
      move = c.streams_move.ensures;
      one_run = c.runs_are_unique.ensures;
      own = c.steady_sends_its_own.ensures;
    })
