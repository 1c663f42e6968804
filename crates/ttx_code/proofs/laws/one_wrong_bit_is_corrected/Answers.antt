use Rattle.ttx_code.proofs.Numbers.{reading-from_Reads}
use Rattle.ttx_code.proofs.laws.one_wrong_bit_is_corrected.Goals as goal

pub returns : goal.returns
returns c = reading-from_Reads
