use Rattle.ttx_arguments.proofs.Written.{splice_words}
use Rattle.ttx_arguments.proofs.laws.splice_words.Goals as goal

pub returns : goal.returns
returns c = splice_words
