use Rattle.ttx_witness.proofs.lemmas.laws.CycleLaws as L
use Rattle.ttx_witness.proofs.laws.cycle_laws.least_limit_is_found.Goals as goal

pub returns : goal.returns
returns c = L.least_limit_is_found
