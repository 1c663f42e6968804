use Rattle.ttx_links.proofs.WrittenLinks.{written_links_are_read}
use Rattle.ttx_links.proofs.laws.written_links_are_read.Goals as goal

pub returns : goal.returns
returns c =
    written_links_are_read c.written_words_are_read.ensures c.words_are_read.ensures c.words_are_words.ensures c.address_is_read_back.ensures
    c.read_numbers_are_numbers.ensures c.read_bytes_are_readable.ensures
