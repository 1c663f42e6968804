use Rattle.std.proofs.Common.{◌≡◌, ◌↔◌, pos, ◌-ℤ◌, length, false, true, subst, arith}
use Rattle.ttx_page.specs.Streams.{repeated}
use Rattle.ttx_counter.specs.Listening.{HasOwner}
use Rattle.ttx_counter.proofs.SentRows.{slot_before, mine_more, mine_begins, owned_at}
use Rattle.ttx_counter.proofs.run_slots.is_owned.Goals as goal

pub loop-i-init : goal.loop-i-init
loop-i-init c = mine_begins c.args.page (repeated c.slots-slots.result.now) (pos c.args.start -ℤ pos (length c.slots-slots.result.now)) false

pub loop-i-preserved : goal.loop-i-preserved
loop-i-preserved c =
    let x = c.slots-slots.result.now in
    mine_more c.args.page (repeated x) (pos c.args.start -ℤ pos (length x)) false c.loop-i.mine c.mine_after-mine.result c.loop-i.i _
    c.loop-i.invariant
    (slot_before c.cycles_repeat.ensures x c.slots-slots.ensures.cycle.some c.args.start c.loop-i.i c.place.result
    c.place.ensures.value) c.mine_after-mine.ensures

pub returns : goal.returns
returns c =
    let x = c.slots-slots.result.now in
    subst (λ y. (c.loop-i.mine ≡ true) ↔ HasOwner (repeated y) c.args.page (pos c.args.start)) c.slots-slots.ensures.slots
    (owned_at c.cycles_repeat.ensures x c.slots-slots.ensures.cycle.some c.args.page c.args.start c.loop-i.i c.loop-i.mine
    (omega arith) c.loop-i.invariant)
