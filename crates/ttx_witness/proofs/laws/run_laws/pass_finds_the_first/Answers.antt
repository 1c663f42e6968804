use Rattle.ttx_witness.specs.laws.RunLaws.{OwnedIn, SureIn}
use Rattle.ttx_witness.proofs.lemmas.runs.FirstBadAndLate as L
use Rattle.ttx_witness.proofs.laws.run_laws.pass_finds_the_first.Goals as goal

pub returns : goal.returns
returns c = λ n k limit s law starts rising ts told. (
  L.not_past (OwnedIn s) (SureIn s) n k limit law starts rising ts told,
  L.stops_at_first (OwnedIn s) (SureIn s) n k limit law starts rising ts told,
  L.late_first (OwnedIn s) (SureIn s) n k limit law starts rising ts told,
)
