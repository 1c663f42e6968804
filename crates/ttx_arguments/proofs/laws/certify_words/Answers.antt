use Rattle.ttx_arguments.proofs.Written.{certify_words}
use Rattle.ttx_arguments.proofs.laws.certify_words.Goals as goal

pub returns : goal.returns
returns c = certify_words
