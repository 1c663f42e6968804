use Rattle.ttx_witness.proofs.lemmas.laws.JudgingLaws as L
use Rattle.ttx_witness.proofs.laws.judging_laws.items_are_judged.Goals as goal

pub returns : goal.returns
returns c = L.items_are_judged
