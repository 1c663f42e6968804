use Rattle.ttx_header.proofs.Slices.{read_numbers_are_numbers}
use Rattle.ttx_header.proofs.laws.read_numbers_are_numbers.Goals as goal

pub returns : goal.returns
returns c = read_numbers_are_numbers
