use Rattle.ttx_arguments.proofs.Written.{preview_words}
use Rattle.ttx_arguments.proofs.laws.preview_words.Goals as goal

pub returns : goal.returns
returns c = preview_words
