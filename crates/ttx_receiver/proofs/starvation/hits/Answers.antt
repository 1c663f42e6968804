use Rattle.std.proofs.Common.{ap, sym}
use Rattle.ttx_page.specs.Views.{memory_of}
use Rattle.ttx_receiver.specs.Starving.{is_received_wrong}
use Rattle.ttx_receiver.proofs.starvation.hits.Goals as goal

pub returns-in-Links : goal.returns-in-Links
returns-in-Links c =
    ap (λ item. is_received_wrong c.args.lines c.args.selection.now item (memory_of c.args.memory.now) c.args.slot.now) (sym c.in-Links.is)
