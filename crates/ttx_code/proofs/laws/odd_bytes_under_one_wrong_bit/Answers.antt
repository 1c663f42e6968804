use Rattle.ttx_code.proofs.Parities.{odd_bytes_under_one_wrong_bit}
use Rattle.ttx_code.proofs.laws.odd_bytes_under_one_wrong_bit.Goals as goal

pub returns : goal.returns
returns c = odd_bytes_under_one_wrong_bit
