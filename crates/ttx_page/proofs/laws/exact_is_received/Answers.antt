use Rattle.ttx_page.proofs.ExactReception.{exact_is_received}
use Rattle.ttx_page.proofs.laws.exact_is_received.Goals as goal

pub returns : goal.returns
returns c = exact_is_received
