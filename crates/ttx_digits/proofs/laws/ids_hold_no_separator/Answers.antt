use Rattle.ttx_digits.proofs.IdsReadBack as L
use Rattle.ttx_digits.proofs.laws.ids_hold_no_separator.Goals as goal

pub returns : goal.returns
returns c = L.ids_free
