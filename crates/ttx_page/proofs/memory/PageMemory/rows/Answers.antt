use Rattle.std.proofs.Common.{refl}
use Rattle.ttx_page.proofs.memory.PageMemory.rows.Goals as goal

pub returns-clause-value : goal.returns-clause-value
returns-clause-value c = refl
