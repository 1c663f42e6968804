use Rattle.ttx_witness.proofs.lemmas.laws.CycleLaws as L
use Rattle.ttx_witness.proofs.laws.cycle_laws.coverage_is_decided.Goals as goal

pub returns : goal.returns
returns c = L.coverage_is_decided
