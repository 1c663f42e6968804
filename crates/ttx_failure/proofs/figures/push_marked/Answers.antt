use Rattle.ttx_document.proofs.Joins.{joined, more}
use Rattle.ttx_failure.specs.Figures.{marked_html}
use Rattle.ttx_failure.proofs.figures.push_marked.Goals as goal

pub returns : goal.returns
unfolding marked_html
returns c = joined c.push_figure_end.result _ _ _ _ _ (more _ _ _ _ _ (more _ _ _ _ _ c.in_ok-push_figure_start.ensures c.in_ok-push_figure.ensures) c.in_ok-push_marks.ensures) c.push_figure_end.ensures
