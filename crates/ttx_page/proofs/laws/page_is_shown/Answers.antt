use Rattle.ttx_page.proofs.BlankMemories.{page_is_shown}
use Rattle.ttx_page.proofs.laws.page_is_shown.Goals as goal

pub returns : goal.returns
returns c = page_is_shown
