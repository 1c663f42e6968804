use Rattle.ttx_header.proofs.Readings.{header_is_kept}
use Rattle.ttx_header.proofs.laws.header_is_kept.Goals as goal

pub returns : goal.returns
returns c = header_is_kept c.words_are_kept.ensures
