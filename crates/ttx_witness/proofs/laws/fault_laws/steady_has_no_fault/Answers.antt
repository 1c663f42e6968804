use Rattle.ttx_witness.proofs.lemmas.faults.NoFault as L
use Rattle.ttx_witness.proofs.laws.fault_laws.steady_has_no_fault.Goals as goal

pub returns : goal.returns
returns c = L.steady_has_no_fault
