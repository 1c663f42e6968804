use Rattle.ttx_arguments.proofs.Written.{twice_words}
use Rattle.ttx_arguments.proofs.laws.twice_words.Goals as goal

pub returns : goal.returns
returns c = twice_words
