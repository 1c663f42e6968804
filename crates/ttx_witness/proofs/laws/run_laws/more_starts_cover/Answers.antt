use Rattle.ttx_witness.specs.laws.RunLaws.{OwnedIn, SureIn}
use Rattle.ttx_witness.proofs.lemmas.runs.Coverage as L
use Rattle.ttx_witness.proofs.laws.run_laws.more_starts_cover.Goals as goal

pub returns : goal.returns
returns c = λ n k limit s starts more further sure covers. L.more_cover (OwnedIn s) (SureIn s) n k limit starts more further sure covers
