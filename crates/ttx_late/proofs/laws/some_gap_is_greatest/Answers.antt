use Rattle.ttx_late.proofs.SomeGap as L
use Rattle.ttx_late.proofs.laws.some_gap_is_greatest.Goals as goal

pub returns : goal.returns
returns c = L.some_gap_is_greatest c.each_slot_turns.ensures c.streams_move.ensures
