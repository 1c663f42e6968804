use Rattle.ttx_counter.proofs.StarvedIsUnseen.{counter_is_unseen}
use Rattle.ttx_counter.proofs.completeness.counter_is_unseen.Goals as goal

pub returns : goal.returns
returns c = counter_is_unseen
