use Rattle.ttx_counter.proofs.ReadCounters.{accepted_is_written}
use Rattle.ttx_counter.proofs.laws.accepted_texts_are_written.Goals as goal

pub returns : goal.returns
returns c = accepted_is_written
