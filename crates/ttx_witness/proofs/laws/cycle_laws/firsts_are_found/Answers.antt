use Rattle.ttx_witness.proofs.lemmas.laws.CycleLaws as L
use Rattle.ttx_witness.proofs.laws.cycle_laws.firsts_are_found.Goals as goal

pub returns : goal.returns
returns c = L.firsts_are_found
