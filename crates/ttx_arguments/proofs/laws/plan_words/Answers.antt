use Rattle.ttx_arguments.proofs.Written.{plan_words}
use Rattle.ttx_arguments.proofs.laws.plan_words.Goals as goal

pub returns : goal.returns
returns c = plan_words
