use Rattle.ttx_code.proofs.Numbers.{words_are_read_under_one_wrong_bit}
use Rattle.ttx_code.proofs.laws.words_are_read_under_one_wrong_bit.Goals as goal

pub returns : goal.returns
returns c = words_are_read_under_one_wrong_bit
