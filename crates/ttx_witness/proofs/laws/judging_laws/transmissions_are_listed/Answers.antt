use Rattle.ttx_witness.proofs.lemmas.laws.JudgingLaws as L
use Rattle.ttx_witness.proofs.laws.judging_laws.transmissions_are_listed.Goals as goal

pub returns : goal.returns
returns c = L.transmissions_are_listed
