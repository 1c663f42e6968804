use Rattle.ttx_mistakes.proofs.Refusals as refusals
use Rattle.ttx_mistakes.proofs.laws.refused_alike.Goals as goal

pub returns : goal.returns
returns c = refusals.refused_alike
