use Rattle.ttx_code.proofs.Numbers.{each_byte_is_near_itself}
use Rattle.ttx_code.proofs.laws.each_byte_is_near_itself.Goals as goal

pub returns : goal.returns
returns c = each_byte_is_near_itself
