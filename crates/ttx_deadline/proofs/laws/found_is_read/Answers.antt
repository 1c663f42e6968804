use Rattle.ttx_deadline.proofs.FoundLaws.{found_is_read}
use Rattle.ttx_deadline.proofs.laws.found_is_read.Goals as goal

pub returns : goal.returns
returns c = found_is_read c.written_texts_are_read.ensures
