use Rattle.ttx_document.proofs.Joins.{joined, more}
use Rattle.ttx_report.specs.Files.{file_rows}
use Rattle.ttx_report.proofs.marks.push_rows.Goals as goal

pub returns : goal.returns
unfolding file_rows
returns c = joined c.push_row-3.result _ _ _ _ _ (more _ _ _ _ _ c.in_ok-push_row.ensures c.in_ok-push_row-2.ensures) c.push_row-3.ensures
