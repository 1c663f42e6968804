use Rattle.ttx_page.proofs.Turns.{each_slot_turns}
use Rattle.ttx_page.proofs.laws.each_slot_turns.Goals as goal

pub returns : goal.returns
returns c = each_slot_turns
