use Rattle.ttx_digits.proofs.ShortDecimals.{one_digit_is, pairs_are_ascii, two_digits_are}
use Rattle.ttx_digits.proofs.decimals.pairs.Goals as goal

pub returns-clause-ascii : goal.returns-clause-ascii
returns-clause-ascii c = pairs_are_ascii

pub returns-clause-ones : goal.returns-clause-ones
returns-clause-ones c = one_digit_is

pub returns-clause-tens : goal.returns-clause-tens
returns-clause-tens c = two_digits_are
