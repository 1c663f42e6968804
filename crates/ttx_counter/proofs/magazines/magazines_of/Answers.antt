use Rattle.std.proofs.Common.{[]}
use Rattle.ttx_counter.specs.Magazines.{magazine_of}
use Rattle.ttx_counter.proofs.MappedLists.{one_more}
use Rattle.ttx_counter.proofs.magazines.magazines_of.Goals as goal

pub loop-slot-preserved : goal.loop-slot-preserved
loop-slot-preserved c =
    one_more magazine_of c.slots-slots.result.now c.loop-slot.slot-index [] c.loop-slot.magazines.items c.push.new.self.items c.magazine_of.result _
    c.loop-slot-test.true c.loop-slot.invariant c.magazine_of.ensures c.push.ensures.items c.if-is_err.ensures.negation
