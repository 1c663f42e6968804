use Rattle.ttx_tool.proofs.PlannedFiles.{found_is_certified}
use Rattle.ttx_tool.proofs.laws.found_is_certified.Goals as goal

pub returns : goal.returns
returns c = found_is_certified c.written_texts_are_read.ensures
