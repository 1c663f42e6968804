use Rattle.ttx_failure.proofs.Permitted.{are_permitted}
use Rattle.ttx_failure.proofs.laws.choices_are_permitted.Goals as goal

pub returns : goal.returns
returns c = are_permitted
