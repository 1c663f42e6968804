use Rattle.ttx_code.proofs.Numbers.{words_are_words}
use Rattle.ttx_code.proofs.laws.words_are_words.Goals as goal

pub returns : goal.returns
returns c = words_are_words
