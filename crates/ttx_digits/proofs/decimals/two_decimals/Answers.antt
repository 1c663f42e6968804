use Rattle.std.proofs.Common.{ap₂}
use Rattle.ttx_digits.specs.Digits.{joined_digits, two_decimals}
use Rattle.ttx_digits.proofs.decimals.two_decimals.Goals as goal

pub returns-clause-value : goal.returns-clause-value
unfolding two_decimals
returns-clause-value c = ap₂ (joined_digits 10) c.in_ok-high.ensures.value c.in_ok-low.ensures.value
