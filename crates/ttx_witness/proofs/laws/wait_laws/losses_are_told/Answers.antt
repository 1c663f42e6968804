use Rattle.ttx_witness.proofs.lemmas.laws.CutOff as L
use Rattle.ttx_witness.proofs.laws.wait_laws.losses_are_told.Goals as goal

pub returns : goal.returns
returns c = L.losses_are_told
