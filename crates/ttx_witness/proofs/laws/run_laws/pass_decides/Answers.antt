use Rattle.ttx_witness.specs.laws.RunLaws.{OwnedIn, SureIn}
use Rattle.ttx_witness.proofs.lemmas.runs.Coverage as L
use Rattle.ttx_witness.proofs.laws.run_laws.pass_decides.Goals as goal

pub returns : goal.returns
returns c = λ n k limit s law starts rising ts told. L.decides (OwnedIn s) (SureIn s) n k limit law starts rising ts told
