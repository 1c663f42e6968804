use Rattle.ttx_render.proofs.LetterCells.{letter_is_seen_lem}
use Rattle.ttx_render.proofs.laws.letter_is_seen.Goals as goal

pub returns : goal.returns
returns c = letter_is_seen_lem c.letters_stand_alone.ensures
