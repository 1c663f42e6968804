use Rattle.ttx_counter.proofs.StreaksBelowK.{streaks_decide}
use Rattle.ttx_counter.proofs.laws.streaks_decide.Goals as goal

pub returns : goal.returns
returns c = streaks_decide
