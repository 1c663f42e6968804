use Rattle.ttx_arguments.proofs.Written.{send_words}
use Rattle.ttx_arguments.proofs.laws.send_words.Goals as goal

pub returns : goal.returns
returns c = send_words
