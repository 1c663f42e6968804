use Rattle.ttx_arguments.proofs.Written.{air_words}
use Rattle.ttx_arguments.proofs.laws.air_words.Goals as goal

pub returns : goal.returns
returns c = air_words
