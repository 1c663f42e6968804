use Rattle.ttx_page.proofs.OutsideErrorRule.{examples_are_outside}
use Rattle.ttx_page.proofs.laws.examples_are_outside.Goals as goal

pub returns : goal.returns
returns c = examples_are_outside
