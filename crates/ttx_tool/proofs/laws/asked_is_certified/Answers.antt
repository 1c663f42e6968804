use Rattle.ttx_tool.proofs.PlannedFiles.{asked_is_certified}
use Rattle.ttx_tool.proofs.laws.asked_is_certified.Goals as goal

pub returns : goal.returns
returns c = asked_is_certified c.written_texts_are_read.ensures
