use Rattle.ttx_document.proofs.Joins.{joined, more}
use Rattle.ttx_failure.specs.Failures.{failure_of}
use Rattle.ttx_failure.proofs.failures.push_html.Goals as goal

pub returns : goal.returns
unfolding failure_of
returns c = joined c.push_end.result _ _ _ _ _ (more _ _ _ _ _ (more _ _ _ _ _ c.in_ok-push_head.ensures c.in_ok-push_lines.ensures) c.in_ok-push_figures.ensures) c.push_end.ensures
