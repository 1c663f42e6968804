use Rattle.ttx_page.proofs.Turns.{cycles_repeat}
use Rattle.ttx_page.proofs.laws.cycles_repeat.Goals as goal

pub returns : goal.returns
returns c = cycles_repeat
