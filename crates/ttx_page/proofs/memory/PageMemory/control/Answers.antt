use Rattle.std.proofs.Common.{refl}
use Rattle.ttx_page.proofs.memory.PageMemory.control.Goals as goal

pub returns : goal.returns
returns c = refl
