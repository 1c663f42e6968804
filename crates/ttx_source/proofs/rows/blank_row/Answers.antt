use Rattle.ttx_source.proofs.RowTable.{blank_is_row}
use Rattle.ttx_source.proofs.rows.blank_row.Goals as goal

pub returns-clause-row : goal.returns-clause-row
returns-clause-row c = blank_is_row
