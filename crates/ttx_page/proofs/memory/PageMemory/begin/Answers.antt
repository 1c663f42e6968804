use Rattle.std.proofs.Common.{true, false, ap₂, set}
use Rattle.ttx_page.specs.Views.{memory_of}
use Rattle.ttx_page.proofs.memory.PageMemory.begin.Goals as goal

pub returns : goal.returns
returns c =
    let m = memory_of c.args.self.now in
    ap₂ (λ row control. record m { rows = set m.rows 0 row; control = control; storing = true; age = 0; fresh = false })
    c.received_top.ensures.value c.control_bits-self.ensures.value
