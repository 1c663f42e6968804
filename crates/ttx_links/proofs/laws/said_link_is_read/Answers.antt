use Rattle.ttx_links.proofs.SaidLinks.{said_link_is_read}
use Rattle.ttx_links.proofs.laws.said_link_is_read.Goals as goal

pub returns : goal.returns
returns c = said_link_is_read c.read_numbers_are_numbers.ensures c.read_bytes_are_readable.ensures
