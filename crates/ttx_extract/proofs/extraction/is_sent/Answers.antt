use Rattle.std.proofs.Common.{◌≤◌, length, ap, arith}
use Rattle.ttx_cycle.specs.Cycles.{slots_of}
use Rattle.ttx_extract.proofs.SentDrafts.{draft_is_sent}
use Rattle.ttx_extract.proofs.extraction.is_sent.Goals as goal

pub returns : goal.returns
returns c = λ lines same.
    let slots = slots_of c.args.cycle.now in
    let l = ap length c.slots-slots.ensures.slots in
    let is = c.slots-slots.ensures.cycle in
    let some : 1 ≤ length slots = let s = is.some in omega arith in
    let most : length slots ≤ 65536 = let m = is.most in omega arith in
    draft_is_sent c.transmissions_are_listed.ensures slots some most lines c.args.service.now same c.lines-lines.ensures.ranges
