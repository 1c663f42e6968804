use Rattle.ttx_packet.proofs.Receptions.{kind_is_kept}
use Rattle.ttx_packet.proofs.laws.kind_is_kept.Goals as goal

pub returns : goal.returns
returns c = kind_is_kept c.words_have_numbers.ensures c.words_are_read_under_one_wrong_bit.ensures
