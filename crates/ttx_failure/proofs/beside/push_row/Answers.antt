use Rattle.ttx_document.proofs.Joins.{joined, more}
use Rattle.ttx_failure.specs.Beside.{beside_row}
use Rattle.ttx_failure.proofs.beside.push_row.Goals as goal

pub returns : goal.returns
unfolding beside_row
returns c = joined c.push_both.result _ _ _ _ _ (more _ _ _ _ _ c.in_ok-push_mark.ensures c.in_ok-push_number.ensures) c.push_both.ensures
