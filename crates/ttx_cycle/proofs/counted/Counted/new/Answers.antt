use Rattle.std.proofs.Common.{refl}
use Rattle.ttx_cycle.proofs.counted.Counted.new.Goals as goal

pub returns-clause-calls : goal.returns-clause-calls
returns-clause-calls g c = refl
