use Rattle.std.proofs.Common.{refl}
use Rattle.ttx_header.proofs.control.ControlFlags.from_bits_retain.Goals as goal

pub returns : goal.returns
returns c = refl
