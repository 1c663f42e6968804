use Rattle.ttx_witness.specs.laws.RunLaws.{OwnedIn, SureIn}
use Rattle.ttx_witness.proofs.StreamRuns as L
use Rattle.ttx_witness.proofs.laws.run_laws.runs_are_the_streams.Goals as goal

pub returns : goal.returns
returns c = λ n k s law ts told. L.runs_are (OwnedIn s) (SureIn s) n law k ts told
