use Rattle.ttx_tool.proofs.PlannedFiles.{late_is_certified}
use Rattle.ttx_tool.proofs.laws.late_is_certified.Goals as goal

pub returns : goal.returns
returns c = late_is_certified c.written_texts_are_read.ensures c.late_cycles_are_followed.ensures c.some_gap_is_greatest.ensures
    c.accepted_is_shown.ensures
