use Rattle.std.proofs.Common.{ap, sym}
use Rattle.ttx_receiver.specs.Starving.{first_byte}
use Rattle.ttx_receiver.proofs.starvation.first_byte_of.Goals as goal

pub returns-in-Head-clause-value : goal.returns-in-Head-clause-value
returns-in-Head-clause-value c = ap first_byte (sym c.in-Head.is)
