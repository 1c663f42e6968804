use Rattle.ttx_header.proofs.Readings.{written_headers_are_read}
use Rattle.ttx_header.proofs.laws.written_headers_are_read.Goals as goal

pub returns : goal.returns
returns c = written_headers_are_read c.address_is_read_back.ensures c.written_words_are_read.ensures
