use Rattle.std.proofs.Common.{ap₂}
use Rattle.ttx_digits.specs.Digits.{joined_digits, two_digits}
use Rattle.ttx_digits.proofs.hexadecimals.two_digits.Goals as goal

pub returns : goal.returns
unfolding two_digits
returns c = ap₂ (joined_digits 16) c.in_ok-high.ensures.value c.in_ok-low.ensures.value
