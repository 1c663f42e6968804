use Rattle.std.proofs.Common.{refl}
use Rattle.ttx_page.proofs.memory.PageMemory.fresh.Goals as goal

pub returns : goal.returns
returns c = refl
