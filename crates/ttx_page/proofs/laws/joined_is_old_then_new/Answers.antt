use Rattle.ttx_page.proofs.Turns.{joined_is_old_then_new}
use Rattle.ttx_page.proofs.laws.joined_is_old_then_new.Goals as goal

pub returns : goal.returns
returns c = joined_is_old_then_new
