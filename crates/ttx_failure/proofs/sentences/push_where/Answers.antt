use Rattle.ttx_document.proofs.Joins.{joined}
use Rattle.ttx_failure.specs.Sentences.{where_lines}
use Rattle.ttx_failure.proofs.sentences.push_where.Goals as goal

pub returns : goal.returns
unfolding where_lines
returns c = joined c.push_memory_line.result _ _ _ _ _ c.in_ok-push_tuning_line.ensures c.push_memory_line.ensures
