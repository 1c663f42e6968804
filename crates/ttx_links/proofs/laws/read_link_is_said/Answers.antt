use Rattle.ttx_links.proofs.ReadableLinks.{read_link_is_said}
use Rattle.ttx_links.proofs.laws.read_link_is_said.Goals as goal

pub returns : goal.returns
returns c = read_link_is_said c.readable_bytes_have_numbers.ensures
