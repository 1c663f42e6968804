use Rattle.ttx_arguments.proofs.Written.{monitor_words}
use Rattle.ttx_arguments.proofs.laws.monitor_words.Goals as goal

pub returns : goal.returns
returns c = monitor_words
