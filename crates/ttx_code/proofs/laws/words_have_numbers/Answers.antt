use Rattle.ttx_code.proofs.Numbers.{words_have_numbers}
use Rattle.ttx_code.proofs.laws.words_have_numbers.Goals as goal

pub returns : goal.returns
returns c = words_have_numbers
