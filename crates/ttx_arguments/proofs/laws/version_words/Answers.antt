use Rattle.ttx_arguments.proofs.Written.{version_words}
use Rattle.ttx_arguments.proofs.laws.version_words.Goals as goal

pub returns : goal.returns
returns c = version_words
