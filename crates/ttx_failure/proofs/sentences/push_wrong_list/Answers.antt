use Rattle.ttx_document.proofs.Joins.{joined, more}
use Rattle.ttx_failure.specs.Sentences.{wrong_list}
use Rattle.ttx_failure.proofs.sentences.push_wrong_list.Goals as goal

pub returns : goal.returns
unfolding wrong_list
returns c = joined c.push_hit_list.result _ _ _ _ _ (more _ _ _ _ _ (more _ _ _ _ _ c.in_ok-push_line_start.ensures c.in_ok-push_rule.ensures) c.in_ok-push_line_end.ensures) c.push_hit_list.ensures
