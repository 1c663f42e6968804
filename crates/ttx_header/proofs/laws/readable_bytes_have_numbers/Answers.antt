use Rattle.ttx_header.proofs.Slices.{readable_bytes_have_numbers}
use Rattle.ttx_header.proofs.laws.readable_bytes_have_numbers.Goals as goal

pub returns : goal.returns
returns c = readable_bytes_have_numbers c.readings_are_numbers.ensures
