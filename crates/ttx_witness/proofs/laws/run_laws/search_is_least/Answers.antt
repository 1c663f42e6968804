use Rattle.ttx_witness.specs.laws.RunLaws.{OwnedIn, SureIn}
use Rattle.ttx_witness.proofs.lemmas.runs.SureStarts as L
use Rattle.ttx_witness.proofs.laws.run_laws.search_is_least.Goals as goal

pub returns : goal.returns
returns c = λ n k s law ts told. (L.found_starts (OwnedIn s) (SureIn s) n k law ts told, L.least_limit (OwnedIn s) (SureIn s) n k law ts told)
