use Rattle.ttx_render.proofs.WrongLetter.{wrong_letter_is_seen_lem}
use Rattle.ttx_render.proofs.laws.wrong_letter_is_seen.Goals as goal

pub returns : goal.returns
returns c = wrong_letter_is_seen_lem c.letters_stand_alone.ensures
