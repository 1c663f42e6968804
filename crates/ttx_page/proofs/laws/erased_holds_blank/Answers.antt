use Rattle.ttx_page.proofs.BlankMemories.{erased_holds_blank}
use Rattle.ttx_page.proofs.laws.erased_holds_blank.Goals as goal

pub returns : goal.returns
returns c = erased_holds_blank
