use Rattle.ttx_digits.proofs.IdsReadBack as L
use Rattle.ttx_digits.proofs.laws.read_ids_are_written.Goals as goal

pub returns : goal.returns
returns c = L.id_is
