use Rattle.ttx_page.proofs.Examples.{examples_hold}
use Rattle.ttx_page.proofs.laws.examples_hold.Goals as goal

pub returns : goal.returns
returns c = examples_hold
