use Rattle.ttx_counter.proofs.StarvedCounterRuns.{starves_in_period}
use Rattle.ttx_counter.proofs.completeness.starves_in_period.Goals as goal

pub returns : goal.returns
returns c = starves_in_period c.each_slot_turns.ensures c.streams_move.ensures
