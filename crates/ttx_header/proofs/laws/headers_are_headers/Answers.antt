use Rattle.ttx_header.proofs.Readings.{headers_are_headers}
use Rattle.ttx_header.proofs.laws.headers_are_headers.Goals as goal

pub returns : goal.returns
returns c = headers_are_headers
