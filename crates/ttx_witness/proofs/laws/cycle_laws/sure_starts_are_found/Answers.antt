use Rattle.ttx_witness.proofs.lemmas.laws.CycleLaws as L
use Rattle.ttx_witness.proofs.laws.cycle_laws.sure_starts_are_found.Goals as goal

pub returns : goal.returns
returns c = L.sure_starts_are_found
