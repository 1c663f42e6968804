use Rattle.ttx_code.proofs.Numbers.{hamming_word-lt}
use Rattle.ttx_code.proofs.laws.words_are_bytes.Goals as goal

pub returns : goal.returns
returns c = hamming_word-lt
