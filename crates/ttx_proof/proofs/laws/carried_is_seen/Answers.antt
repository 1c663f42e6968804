use Rattle.ttx_proof.proofs.CarriedIsSeen as L
use Rattle.ttx_proof.proofs.laws.carried_is_seen.Goals as goal

pub returns : goal.returns
returns c = L.carried_is_seen c.runs_are_seen.ensures c.steps_keep_memories.ensures c.agreeing_streams_carry.ensures
    c.agreeing_streams_are_received.ensures
