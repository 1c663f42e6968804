use Rattle.ttx_witness.proofs.lemmas.laws.CycleLaws as L
use Rattle.ttx_witness.proofs.laws.cycle_laws.further_starts_cover.Goals as goal

pub returns : goal.returns
returns c = L.further_starts_cover
