use Rattle.ttx_header.proofs.Slices.{read_bytes_are_readable}
use Rattle.ttx_header.proofs.laws.read_bytes_are_readable.Goals as goal

pub returns : goal.returns
returns c = read_bytes_are_readable
