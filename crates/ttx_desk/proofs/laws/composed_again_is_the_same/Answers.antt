use Rattle.ttx_desk.proofs.ComposedAgain.{composed_again_lem}
use Rattle.ttx_desk.proofs.laws.composed_again_is_the_same.Goals as goal

pub returns : goal.returns
returns c = composed_again_lem
