use Rattle.ttx_spread.proofs.SpreadNumbers.{numbers_are_spread}
use Rattle.ttx_spread.proofs.laws.numbers_are_spread.Goals as goal

pub returns : goal.returns
returns c = numbers_are_spread
