use Rattle.std.proofs.Common.{arith}
use Rattle.ttx_possible.proofs.line_values.first_value.Goals as goal

pub returns : goal.returns
returns c lines low high = let e = c.loop-lines-test.false in c.loop-lines.invariant lines low (omega arith)
