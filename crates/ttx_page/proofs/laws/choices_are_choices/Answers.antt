use Rattle.ttx_page.proofs.Choices.{choices_are_choices}
use Rattle.ttx_page.proofs.laws.choices_are_choices.Goals as goal

pub returns : goal.returns
returns c = choices_are_choices
