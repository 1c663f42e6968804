use Rattle.ttx_arguments.proofs.Written.{refute_words}
use Rattle.ttx_arguments.proofs.laws.refute_words.Goals as goal

pub returns : goal.returns
returns c = refute_words
