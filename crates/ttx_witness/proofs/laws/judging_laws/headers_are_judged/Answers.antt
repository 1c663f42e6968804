use Rattle.ttx_witness.proofs.lemmas.laws.HeaderGaps as L
use Rattle.ttx_witness.proofs.laws.judging_laws.headers_are_judged.Goals as goal

pub returns : goal.returns
returns c = L.headers_are_judged c.each_slot_turns.ensures
