use Rattle.ttx_packet.proofs.Addresses.{address_is_read_back}
use Rattle.ttx_packet.proofs.laws.address_is_read_back.Goals as goal

pub returns : goal.returns
returns c = address_is_read_back c.words_are_read.ensures c.words_are_words.ensures
