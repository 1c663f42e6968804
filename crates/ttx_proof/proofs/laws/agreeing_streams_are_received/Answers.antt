use Rattle.ttx_proof.proofs.ReceivedAlike as L
use Rattle.ttx_proof.proofs.laws.agreeing_streams_are_received.Goals as goal

pub returns : goal.returns
returns c = L.agreeing_streams_are_received
