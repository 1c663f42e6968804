use Rattle.ttx_header.proofs.Readings.{headers_have_fields}
use Rattle.ttx_header.proofs.laws.headers_have_fields.Goals as goal

pub returns : goal.returns
returns c = headers_have_fields c.readings_are_numbers.ensures
