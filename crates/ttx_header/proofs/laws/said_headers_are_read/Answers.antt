use Rattle.ttx_header.proofs.Readings.{said_headers_are_read}
use Rattle.ttx_header.proofs.laws.said_headers_are_read.Goals as goal

pub returns : goal.returns
returns c = said_headers_are_read
