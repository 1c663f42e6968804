use Rattle.ttx_document.proofs.Joins.{joined, more}
use Rattle.ttx_failure.specs.Choices.{choice_item}
use Rattle.ttx_failure.proofs.choices.push_choice_item.Goals as goal

pub returns : goal.returns
unfolding choice_item
returns c = joined c.push_item_end.result _ _ _ _ _ (more _ _ _ _ _ c.in_ok-push_item_start.ensures c.in_ok-push_choice.ensures) c.push_item_end.ensures
