use Rattle.ttx_arguments.proofs.Written.{replay_words}
use Rattle.ttx_arguments.proofs.laws.replay_words.Goals as goal

pub returns : goal.returns
returns c = replay_words
