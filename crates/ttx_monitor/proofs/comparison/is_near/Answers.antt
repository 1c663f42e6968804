use Rattle.std.proofs.Common.{nat_le, ap, arith}
use Rattle.std.proofs.lemmas.Nat.{xor_of_8}
use Rattle.ttx_code.specs.Words.{distance}
use Rattle.ttx_monitor.proofs.NearBytes.{ones_at}
use Rattle.ttx_monitor.proofs.comparison.is_near.Goals as goal

pub returns : goal.returns
unfolding distance
returns c = ap (λ n. nat_le n 1) (ones_at _ (xor_of_8 c.args.sent c.args.received (omega arith) (omega arith)))
