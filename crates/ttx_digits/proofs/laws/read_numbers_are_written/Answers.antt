use Rattle.ttx_digits.proofs.NumbersReadBack as L
use Rattle.ttx_digits.proofs.laws.read_numbers_are_written.Goals as goal

pub returns : goal.returns
returns c = L.number_is
