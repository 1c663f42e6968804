use Rattle.std.proofs.Common.{refl}
use Rattle.ttx_info.proofs.writer.half_byte.Goals as goal

pub returns-clause-value : goal.returns-clause-value
returns-clause-value c = refl
