use Rattle.ttx_counter.proofs.PlainRuns.{periods}
use Rattle.ttx_counter.proofs.laws.periods_repeat.Goals as goal

pub returns : goal.returns
returns c = periods c.cycles_repeat.ensures
