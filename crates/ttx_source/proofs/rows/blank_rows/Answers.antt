use Rattle.ttx_source.proofs.RowTable.{blank_are_rows}
use Rattle.ttx_source.proofs.rows.blank_rows.Goals as goal

pub returns-clause-rows : goal.returns-clause-rows
returns-clause-rows c = blank_are_rows
