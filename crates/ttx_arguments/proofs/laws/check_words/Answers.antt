use Rattle.ttx_arguments.proofs.Written.{check_words}
use Rattle.ttx_arguments.proofs.laws.check_words.Goals as goal

pub returns : goal.returns
returns c = check_words
