use Rattle.ttx_page.proofs.OwnContents.{steady_sends_its_own}
use Rattle.ttx_page.proofs.laws.steady_sends_its_own.Goals as goal

pub returns : goal.returns
returns c = steady_sends_its_own
