use Rattle.std.proofs.Common.{refl}
use Rattle.ttx_cycle.proofs.counted.Counted.faults.Goals as goal

pub returns : goal.returns
returns g c = refl
