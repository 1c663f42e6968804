use Rattle.ttx_proof.proofs.OneVerdict.{splice_verdicts_are_one}
use Rattle.ttx_proof.proofs.laws.verdicts_are_one.Goals as goal

pub returns : goal.returns
returns c = splice_verdicts_are_one c.verdicts_mean.ensures c.verdicts_are_one.ensures
