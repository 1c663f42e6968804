use Rattle.ttx_document.proofs.Joins.{joined, more}
use Rattle.ttx_report.specs.Verdicts.{decoders_html}
use Rattle.ttx_report.proofs.verdicts.push_decoders.Goals as goal

pub returns : goal.returns
unfolding decoders_html
returns c = joined c.push_last.result _ _ _ _ _ (more _ _ _ _ _ (more _ _ _ _ _ c.in_ok-push_heading.ensures c.in_ok-push_nearest.ensures) c.in_ok-push_further.ensures) c.push_last.ensures
