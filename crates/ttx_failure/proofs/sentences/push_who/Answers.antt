use Rattle.ttx_document.proofs.Joins.{joined}
use Rattle.ttx_failure.specs.Sentences.{who_lines}
use Rattle.ttx_failure.proofs.sentences.push_who.Goals as goal

pub returns : goal.returns
unfolding who_lines
returns c = joined c.push_setting_line.result _ _ _ _ _ c.in_ok-push_claim_line.ensures c.push_setting_line.ensures
