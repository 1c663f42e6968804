use Rattle.ttx_document.proofs.Joins.{joined, more}
use Rattle.ttx_failure.proofs.sentences.push_memory_line.Goals as goal

pub returns : goal.returns
returns c = joined c.push_line_end.result _ _ _ _ _ (more _ _ _ _ _ c.in_ok-push_line_start.ensures c.in_ok-push_memory.ensures) c.push_line_end.ensures
