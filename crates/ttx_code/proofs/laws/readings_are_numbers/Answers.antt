use Rattle.ttx_code.proofs.Numbers.{readings_are_numbers}
use Rattle.ttx_code.proofs.laws.readings_are_numbers.Goals as goal

pub returns : goal.returns
returns c = readings_are_numbers
