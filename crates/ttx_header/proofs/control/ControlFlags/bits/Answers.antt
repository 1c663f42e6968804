use Rattle.std.proofs.Common.{refl}
use Rattle.ttx_header.proofs.control.ControlFlags.bits.Goals as goal

pub returns : goal.returns
returns c = refl
