use Rattle.ttx_arguments.proofs.Written.{wait_words}
use Rattle.ttx_arguments.proofs.laws.wait_words.Goals as goal

pub returns : goal.returns
returns c = wait_words
