use Rattle.ttx_witness.proofs.lemmas.sent.FirstPeriod as L
use Rattle.ttx_witness.proofs.laws.judging_laws.first_period_is_listed.Goals as goal

pub returns : goal.returns
returns c = L.first_period_is_listed
