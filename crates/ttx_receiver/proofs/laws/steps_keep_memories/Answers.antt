use Rattle.ttx_receiver.proofs.KeptMemories as L
use Rattle.ttx_receiver.proofs.laws.steps_keep_memories.Goals as goal

pub returns : goal.returns
returns c = L.steps_keep_memories c.headers_have_fields.ensures
