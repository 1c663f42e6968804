use Rattle.ttx_digits.proofs.IdsReadBack as L
use Rattle.ttx_digits.proofs.laws.written_ids_are_read.Goals as goal

pub returns : goal.returns
returns c = L.id_read
