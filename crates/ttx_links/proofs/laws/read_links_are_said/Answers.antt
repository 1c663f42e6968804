use Rattle.ttx_links.proofs.ReadableLinks.{read_links_are_said}
use Rattle.ttx_links.proofs.laws.read_links_are_said.Goals as goal

pub returns : goal.returns
returns c = read_links_are_said c.readable_bytes_have_numbers.ensures
