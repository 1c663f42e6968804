use Rattle.ttx_document.proofs.Joins.{joined}
use Rattle.ttx_failure.specs.Failures.{failure_lines}
use Rattle.ttx_failure.proofs.failures.push_lines.Goals as goal

pub returns : goal.returns
unfolding failure_lines
returns c = joined c.push_unlike_line.result _ _ _ _ _ c.in_ok-push_sentences.ensures c.push_unlike_line.ensures
