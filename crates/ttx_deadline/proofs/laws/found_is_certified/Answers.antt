use Rattle.ttx_deadline.proofs.FoundLaws.{found_is_certified}
use Rattle.ttx_deadline.proofs.laws.found_is_certified.Goals as goal

pub returns : goal.returns
returns c = found_is_certified c.verdicts_are_one.ensures
