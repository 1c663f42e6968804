use Rattle.ttx_page.proofs.WrongText.{wrong_text_is_received}
use Rattle.ttx_page.proofs.laws.wrong_text_is_received.Goals as goal

pub returns : goal.returns
returns c = wrong_text_is_received c.empty_slots_are_empty.ensures
