use Rattle.ttx_links.proofs.WrittenLinks.{link_written}
use Rattle.ttx_links.proofs.laws.written_link_is_said.Goals as goal

pub returns : goal.returns
returns c = link_written c.written_words_are_read.ensures
