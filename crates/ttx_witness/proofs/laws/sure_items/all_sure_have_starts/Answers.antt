use Rattle.ttx_witness.proofs.lemmas.laws.SureItems as L
use Rattle.ttx_witness.proofs.laws.sure_items.all_sure_have_starts.Goals as goal

pub returns : goal.returns
returns c = L.all_sure_have_starts c.each_slot_turns.ensures c.streams_move.ensures
