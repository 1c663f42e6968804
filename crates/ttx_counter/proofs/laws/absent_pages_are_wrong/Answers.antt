use Rattle.ttx_counter.proofs.PlainRuns.{absent}
use Rattle.ttx_counter.proofs.laws.absent_pages_are_wrong.Goals as goal

pub returns : goal.returns
returns c = absent
