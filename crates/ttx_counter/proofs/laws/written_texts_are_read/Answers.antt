use Rattle.ttx_counter.proofs.ReadCounters.{written_is_read}
use Rattle.ttx_counter.proofs.laws.written_texts_are_read.Goals as goal

pub returns : goal.returns
returns c = written_is_read
