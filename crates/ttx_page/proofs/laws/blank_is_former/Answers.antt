use Rattle.ttx_page.proofs.BlankMemories.{blank_is_former}
use Rattle.ttx_page.proofs.laws.blank_is_former.Goals as goal

pub returns : goal.returns
returns c = blank_is_former
