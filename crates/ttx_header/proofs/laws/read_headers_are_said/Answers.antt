use Rattle.ttx_header.proofs.Readings.{read_headers_are_said}
use Rattle.ttx_header.proofs.laws.read_headers_are_said.Goals as goal

pub returns : goal.returns
returns c = read_headers_are_said c.readable_bytes_have_numbers.ensures c.headers_are_headers.ensures c.headers_have_fields.ensures
