use Rattle.ttx_counter.proofs.StarvedIsUnseen.{starved_is_unseen}
use Rattle.ttx_counter.proofs.completeness.starved_is_unseen.Goals as goal

pub returns : goal.returns
returns c = starved_is_unseen c.page_is_shown.ensures c.wrong_letter_is_seen.ensures
