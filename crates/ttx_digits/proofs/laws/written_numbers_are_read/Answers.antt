use Rattle.ttx_digits.proofs.NumbersReadBack as L
use Rattle.ttx_digits.proofs.laws.written_numbers_are_read.Goals as goal

pub returns : goal.returns
returns c = L.number_read
