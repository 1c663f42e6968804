use Rattle.ttx_packet.proofs.Numbered.{row_number}
use Rattle.ttx_packet.proofs.laws.rows_are_numbered.Goals as goal

pub returns : goal.returns
returns c = row_number
