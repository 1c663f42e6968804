use Rattle.ttx_page.proofs.OwnContents.{no_header_is_none}
use Rattle.ttx_page.proofs.laws.no_header_is_none.Goals as goal

pub returns : goal.returns
returns c = no_header_is_none
