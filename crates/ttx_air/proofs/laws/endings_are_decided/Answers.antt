use Rattle.ttx_air.proofs.DecidedEndings as L
use Rattle.ttx_air.proofs.OneJudgement.{judgements_are_one}
use Rattle.ttx_air.proofs.laws.endings_are_decided.Goals as goal

pub returns : goal.returns
returns c = L.endings_are_decided (judgements_are_one c.verdicts_are_one.ensures)
