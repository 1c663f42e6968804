use Rattle.std.proofs.Common.{arith}
use Rattle.std.proofs.lemmas.Nat.{xor_of_8}
use Rattle.ttx_code.specs.Words.{distance}
use Rattle.ttx_monitor.proofs.NearBytes.{ones_at, few_ones}
use Rattle.ttx_monitor.proofs.comparison.wrong_bits_of.Goals as goal

pub returns-clause-is : goal.returns-clause-is
unfolding distance
returns-clause-is c = ones_at _ (xor_of_8 c.args.sent c.args.received (omega arith) (omega arith))

pub returns-clause-few : goal.returns-clause-few
returns-clause-few c = few_ones _ (xor_of_8 c.args.sent c.args.received (omega arith) (omega arith))
