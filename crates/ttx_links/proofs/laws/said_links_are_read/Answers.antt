use Rattle.ttx_links.proofs.SaidLinks.{links_said}
use Rattle.ttx_links.proofs.laws.said_links_are_read.Goals as goal

pub returns : goal.returns
returns c = λ mag f s is targets slot says.
    (links_said c.read_numbers_are_numbers.ensures c.read_bytes_are_readable.ensures mag f s is targets slot.size says, says.crc)
