use Rattle.ttx_receiver.proofs.StarvedScript.{starved_is_scripted}
use Rattle.ttx_receiver.proofs.laws.starved_is_scripted.Goals as goal

pub returns : goal.returns
returns c = starved_is_scripted c.choices_are_choices.ensures
