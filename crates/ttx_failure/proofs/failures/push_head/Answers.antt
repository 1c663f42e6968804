use Rattle.ttx_document.proofs.Joins.{joined, more}
use Rattle.ttx_failure.specs.Failures.{head_html}
use Rattle.ttx_failure.proofs.failures.push_head.Goals as goal

pub returns : goal.returns
unfolding head_html
returns c = joined c.push_body.result _ _ _ _ _ (more _ _ _ _ _ (more _ _ _ _ _ (more _ _ _ _ _ c.in_ok-push_start.ensures c.in_ok-push_sheet.ensures) c.in_ok-push_style.ensures) c.in_ok-push_figures_style.ensures) c.push_body.ensures
