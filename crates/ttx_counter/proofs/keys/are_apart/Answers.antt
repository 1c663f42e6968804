use Rattle.std.proofs.Common.{arith}
use Rattle.ttx_counter.proofs.keys.are_apart.Goals as goal

pub loop-i-init : goal.loop-i-init
loop-i-init c = λ a b before below same. omega (arith, before, below)
