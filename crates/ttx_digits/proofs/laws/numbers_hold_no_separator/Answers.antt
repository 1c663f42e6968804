use Rattle.ttx_digits.proofs.NumbersReadBack as L
use Rattle.ttx_digits.proofs.laws.numbers_hold_no_separator.Goals as goal

pub returns : goal.returns
returns c = L.numbers_free
