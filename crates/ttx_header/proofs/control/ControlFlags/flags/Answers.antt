use Rattle.std.proofs.Common.{refl}
use Rattle.ttx_header.proofs.control.ControlFlags.flags.Goals as goal

pub returns : goal.returns
returns c = λ _. refl
