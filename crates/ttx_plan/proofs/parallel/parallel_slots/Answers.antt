use Rattle.std.proofs.Common.{◌-◌, arith, subst, sym, ◌∙◌}
use Rattle.std.proofs.lemmas.Bool.{cond-true, cond-false}
use Rattle.ttx_plan.specs.Cursors.{magazines_of}
use Rattle.ttx_plan.specs.Packets.{holds_packet}
use Rattle.ttx_plan.proofs.SchedulerState.{State, start, start_left, has_room, more, finish, finish_length, some_slot}
use Rattle.ttx_plan.proofs.parallel.parallel_slots.Goals as goal

pub count_packets-left-requires-clause-few : goal.count_packets-left-requires-clause-few
count_packets-left-requires-clause-few c =
    omega (arith, start_left (magazines_of c.args.lines c.args.info c.args.queues.now), c.requires.few)

pub loop-left-init : goal.loop-left-init
loop-left-init c =
    subst (λ x. State (magazines_of c.args.lines c.args.info c.args.queues.now) c.new-cursors.result x c.count_packets-left.result)
    (sym c.new-slots.ensures.items)
    (start (magazines_of c.args.lines c.args.info c.args.queues.now) c.new-cursors.result c.count_packets-left.result
    c.new-cursors.ensures c.count_packets-left.ensures (omega (arith, c.requires.some)))

pub step-slot-requires-clause-room : goal.step-slot-requires-clause-room
step-slot-requires-clause-room c =
    let r = has_room _ _ _ _ c.args.lines c.loop-left.invariant c.loop-left-test.true c.requires.lines.0 c.requires.few in
    omega (arith, r, c.loop-left.slots.ok)

pub loop-left-smaller-then-holds_packet : goal.loop-left-smaller-then-holds_packet
loop-left-smaller-then-holds_packet c =
    let r = has_room _ _ _ _ c.args.lines c.loop-left.invariant c.loop-left-test.true c.requires.lines.0 c.requires.few in
    omega (arith, r, c.in_ok-push.ensures.len)

pub loop-left-preserved-then-holds_packet : goal.loop-left-preserved-then-holds_packet
loop-left-preserved-then-holds_packet c = rw (c.in_ok-push.ensures.items, c.bytes.ensures) (more c.args.lines c.args.info c.args.queues.now
    c.loop-left.cursors c.step-slot.new.self c.loop-left.slots.items c.len.result c.loop-left.left (c.loop-left.left - 1) c.step-slot.result
    c.loop-left.invariant (omega arith) c.loop-left-test.true c.step-slot.ensures.slot c.step-slot.ensures.cursors
    (cond-true (holds_packet c.step-slot.result) _ _ (sym c.holds_packet.ensures ∙ c.if-holds_packet.true)))

pub loop-left-smaller : goal.loop-left-smaller
loop-left-smaller c =
    let r = has_room _ _ _ _ c.args.lines c.loop-left.invariant c.loop-left-test.true c.requires.lines.0 c.requires.few in
    omega (arith, r, c.in_ok-push.ensures.len)

pub loop-left-preserved : goal.loop-left-preserved
loop-left-preserved c = rw (c.in_ok-push.ensures.items, c.bytes.ensures) (more c.args.lines c.args.info c.args.queues.now
    c.loop-left.cursors c.step-slot.new.self c.loop-left.slots.items c.len.result c.loop-left.left c.loop-left.left c.step-slot.result
    c.loop-left.invariant (omega arith) c.loop-left-test.true c.step-slot.ensures.slot c.step-slot.ensures.cursors
    (cond-false (holds_packet c.step-slot.result) _ _ (sym c.holds_packet.ensures ∙ c.if-holds_packet.false)))

pub returns-clause-cycle : goal.returns-clause-cycle
returns-clause-cycle c = finish _ _ _ _ _ c.loop-left.invariant (omega arith) c.in_ok-fill.ensures

pub returns-clause-length : goal.returns-clause-length
returns-clause-length c =
    let h = finish_length _ _ _ _ _ c.loop-left.invariant (omega arith) c.in_ok-fill.ensures c.requires.lines.0 c.requires.few in
    omega (arith, h)

pub returns-clause-some : goal.returns-clause-some
returns-clause-some c =
    let h = some_slot _ _ (finish _ _ _ _ _ c.loop-left.invariant (omega arith) c.in_ok-fill.ensures) in
    omega (arith, h, c.fill.new.slots.ok)
