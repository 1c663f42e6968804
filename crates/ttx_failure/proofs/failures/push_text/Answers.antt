use Rattle.ttx_document.proofs.Joins.{joined}
use Rattle.ttx_failure.specs.Failures.{failure_of}
use Rattle.ttx_failure.proofs.failures.push_text.Goals as goal

pub returns : goal.returns
unfolding failure_of
returns c = joined c.push_beside.result _ _ _ _ _ c.in_ok-push_lines.ensures c.push_beside.ensures
