use Rattle.ttx_witness.proofs.lemmas.laws.SureItems as L
use Rattle.ttx_witness.proofs.laws.sure_items.sure_items_are_accepted.Goals as goal

pub returns : goal.returns
returns c = L.sure_items_are_accepted c.each_slot_turns.ensures c.streams_move.ensures c.owners_are_near.ensures
