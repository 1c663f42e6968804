use Rattle.ttx_page.proofs.BlankMemories.{blank_is_tested}
use Rattle.ttx_page.proofs.laws.blank_is_tested.Goals as goal

pub returns : goal.returns
returns c = blank_is_tested
