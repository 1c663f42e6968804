use Rattle.ttx_counter.proofs.CoveredIsSent.{starved_is_not_covered}
use Rattle.ttx_counter.proofs.completeness.starved_is_not_covered.Goals as goal

pub returns : goal.returns
returns c =
    starved_is_not_covered (record {
      turn = c.each_slot_turns.ensures;
      move = c.streams_move.ensures;
      one_run = c.runs_are_unique.ensures;
      own = c.steady_sends_its_own.ensures;
    })
