use Rattle.ttx_arguments.proofs.Written.{find_words}
use Rattle.ttx_arguments.proofs.laws.find_words.Goals as goal

pub returns : goal.returns
returns c = find_words
