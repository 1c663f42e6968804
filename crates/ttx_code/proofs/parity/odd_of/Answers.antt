use Rattle.std.proofs.Common.{arith}
use Rattle.ttx_code.proofs.Parities.{ones_at}
use Rattle.ttx_code.proofs.parity.odd_of.Goals as goal

pub returns-then-b-eq1 : goal.returns-then-b-eq1
returns-then-b-eq1 c = omega (arith, ones_at c.args.b (omega arith))

pub returns-else-b-eq1 : goal.returns-else-b-eq1
returns-else-b-eq1 c = λ odd. omega (arith, ones_at c.args.b (omega arith))
