use Rattle.ttx_header.proofs.Slices.{words_are_kept}
use Rattle.ttx_header.proofs.laws.words_are_kept.Goals as goal

pub returns : goal.returns
returns c = words_are_kept c.words_are_read_under_one_wrong_bit.ensures
