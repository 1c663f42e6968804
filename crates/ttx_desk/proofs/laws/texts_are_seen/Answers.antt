use Rattle.ttx_desk.proofs.SeenTexts.{texts_are_seen_lem}
use Rattle.ttx_desk.proofs.laws.texts_are_seen.Goals as goal

pub returns : goal.returns
returns c = texts_are_seen_lem c.row_is_seen.ensures c.head_is_seen.ensures
