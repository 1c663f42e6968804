use Rattle.std.proofs.Common.{refl}
use Rattle.ttx_cycle.proofs.faulty.FaultyWriter.taken.Goals as goal

pub returns : goal.returns
returns c = refl
