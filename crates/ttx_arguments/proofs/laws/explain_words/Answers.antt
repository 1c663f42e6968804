use Rattle.ttx_arguments.proofs.Written.{explain_words}
use Rattle.ttx_arguments.proofs.laws.explain_words.Goals as goal

pub returns : goal.returns
returns c = explain_words
