use Rattle.ttx_document.proofs.Joins.{joined, more}
use Rattle.ttx_failure.specs.Sentences.{choices_made}
use Rattle.ttx_failure.proofs.sentences.push_choices_made.Goals as goal

pub returns : goal.returns
unfolding choices_made
returns c = joined c.push_choice_list.result _ _ _ _ _ (more _ _ _ _ _ (more _ _ _ _ _ c.in_ok-push_line_start.ensures c.in_ok-push_may.ensures) c.in_ok-push_line_end.ensures) c.push_choice_list.ensures
