use Rattle.ttx_code.proofs.Numbers.{reading-word}
use Rattle.ttx_code.proofs.laws.words_are_read.Goals as goal

pub returns : goal.returns
returns c = reading-word
