use Rattle.ttx_render.proofs.LetterCells.{letter_is_shown_lem}
use Rattle.ttx_render.proofs.laws.letter_is_shown.Goals as goal

pub returns : goal.returns
returns c = letter_is_shown_lem c.letters_stand_alone.ensures
