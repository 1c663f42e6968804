use Rattle.std.proofs.Common.{ap}
use Rattle.ttx_page.specs.Views.{memory_of}
use Rattle.ttx_page.proofs.memory.PageMemory.grow_older.Goals as goal

pub returns : goal.returns
returns c = ap (λ age. record (memory_of c.args.self.now) { age = age }) c.min-self.ensures
