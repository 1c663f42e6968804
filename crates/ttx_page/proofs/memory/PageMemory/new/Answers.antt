use Rattle.std.proofs.Common.{refl}
use Rattle.ttx_page.proofs.memory.PageMemory.new.Goals as goal

pub returns-then-age-le64-clause-fields : goal.returns-then-age-le64-clause-fields
returns-then-age-le64-clause-fields c = refl
