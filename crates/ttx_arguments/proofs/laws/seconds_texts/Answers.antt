use Rattle.ttx_arguments.proofs.Written.{seconds_texts}
use Rattle.ttx_arguments.proofs.laws.seconds_texts.Goals as goal

pub returns : goal.returns
returns c = seconds_texts
