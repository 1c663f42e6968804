use Rattle.ttx_arguments.proofs.Written.{repeat_words}
use Rattle.ttx_arguments.proofs.laws.repeat_words.Goals as goal

pub returns : goal.returns
returns c = repeat_words
