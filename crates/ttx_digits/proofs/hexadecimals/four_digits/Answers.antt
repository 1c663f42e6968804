use Rattle.std.proofs.Common.{ap₂}
use Rattle.ttx_digits.specs.Digits.{joined_digits, four_digits}
use Rattle.ttx_digits.proofs.hexadecimals.four_digits.Goals as goal

pub returns : goal.returns
unfolding four_digits
returns c = ap₂ (joined_digits 256) c.in_ok-high.ensures c.in_ok-low.ensures
