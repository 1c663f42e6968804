use Rattle.std.proofs.Common.{pos, Some, subst}
use Rattle.ttx_cycle.specs.Cycles.{slots_of}
use Rattle.ttx_page.specs.Packets.{packet_of}
use Rattle.ttx_page.specs.Streams.{repeated}
use Rattle.ttx_witness.specs.faults.Faults.{IsPageFault}
use Rattle.ttx_extract.proofs.Packets.{carried}
use Rattle.ttx_extract.proofs.NeededRows.{row_range}
use Rattle.ttx_extract.proofs.conflicts.unlike_item.Goals as goal

pub returns-in-None-clause-only : goal.returns-in-None-clause-only
returns-in-None-clause-only c = λ pages p fault item b names sent.
    let slots = slots_of c.args.cycle.now in
    let at = (subst (λ reason. IsPageFault slots pages p (Some reason)) c.in-RowDiffers.is fault).5 in
    let r = at.here in
    let is = carried p.id.mag r.row (packet_of (repeated slots (pos c.in-RowDiffers.slot))) r.sent.owned.2 in
    let range = row_range p r.row r.needed in
    c.in-None.ensures.none at.within is.0 r.row is.1 is.2 range.0 range.1
