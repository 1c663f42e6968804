use Rattle.ttx_header.proofs.Slices.{written_words_are_read}
use Rattle.ttx_header.proofs.laws.written_words_are_read.Goals as goal

pub returns : goal.returns
returns c = written_words_are_read c.words_are_read.ensures c.words_are_words.ensures
