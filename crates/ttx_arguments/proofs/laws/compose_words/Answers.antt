use Rattle.ttx_arguments.proofs.Written.{compose_words}
use Rattle.ttx_arguments.proofs.laws.compose_words.Goals as goal

pub returns : goal.returns
returns c = compose_words
