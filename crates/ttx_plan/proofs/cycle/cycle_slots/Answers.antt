use Rattle.std.proofs.Common.{◌≡◌, ◌*◌, ◌+◌, ◌<◌, ◌≤◌, map, length, sym, ap, subst, ◌∙◌, arith}
use Rattle.std.proofs.lemmas.List.{length-map}
use Rattle.ttx_plan.specs.Blocks.{queues_to}
use Rattle.ttx_plan.specs.Carries.{CarriesBlocks}
use Rattle.ttx_plan.specs.Counting.{slots_for}
use Rattle.ttx_plan.specs.Cursors.{lists_of}
use Rattle.ttx_plan.specs.Seen.{seen_sent}
use Rattle.ttx_plan.proofs.Lengths.{queued_sent, queues_slots, queues_some, over_queues, serial_filled, filled_most, filled_some}
use Rattle.ttx_plan.proofs.cycle.cycle_slots.Goals as goal

pub returns-in_ok-fill-clause-carries : goal.returns-in_ok-fill-clause-carries
returns-in_ok-fill-clause-carries c =
    subst (λ b. CarriesBlocks b c.args.lines c.args.info (map seen_sent c.args.sent.now) c.fill.new.slots.items) (sym c.if-serial.true)
    (serial_filled c.args.lines c.args.info _ c.in_ok-slots.slots.items c.fill.new.slots.items c.in_ok-slots.ensures c.in_ok-fill.ensures)

pub returns-in_ok-fill-clause-most : goal.returns-in_ok-fill-clause-most
returns-in_ok-fill-clause-most c =
    let h = filled_most c.args.lines c.args.info
    (map seen_sent c.args.sent.now) c.in_ok-slots.slots.items c.fill.new.slots.items c.requires.lines.0 c.in_ok-slots.ensures
    c.in_ok-fill.ensures c.requires.few in
    omega (arith, h, c.fill.new.slots.ok)

pub returns-in_ok-fill-clause-some : goal.returns-in_ok-fill-clause-some
returns-in_ok-fill-clause-some c =
    let some : 0 < length (map seen_sent c.args.sent.now) = omega (arith, length-map c.args.sent.now seen_sent, c.requires.some) in
    let h = filled_some c.args.lines c.args.info (map seen_sent c.args.sent.now) c.in_ok-slots.slots.items c.fill.new.slots.items
    some c.in_ok-slots.ensures c.in_ok-fill.ensures in
    omega (arith, h, c.fill.new.slots.ok)

pub parallel_slots-requires-clause-few : goal.parallel_slots-requires-clause-few
parallel_slots-requires-clause-few c =
    let is : lists_of c.deref.result.now ≡ queues_to (map seen_sent c.args.sent.now) 8 = ap lists_of c.deref.ensures.value ∙ c.in_ok-queues.ensures in
    let e = over_queues (slots_for c.args.lines) (map seen_sent c.args.sent.now) (lists_of c.deref.result.now) is
    ∙ queues_slots c.args.lines (map seen_sent c.args.sent.now) (queued_sent c.args.sent.now) in
    subst (λ n. 2 * n + 2 * c.args.lines ≤ 65536) (sym e) c.requires.few

pub parallel_slots-requires-clause-some : goal.parallel_slots-requires-clause-some
parallel_slots-requires-clause-some c =
    let is : lists_of c.deref.result.now ≡ queues_to (map seen_sent c.args.sent.now) 8 = ap lists_of c.deref.ensures.value ∙ c.in_ok-queues.ensures in
    let some : 0 < length (map seen_sent c.args.sent.now) = omega (arith, length-map c.args.sent.now seen_sent, c.requires.some) in
    subst (λ n. 0 < n) (sym (over_queues length (map seen_sent c.args.sent.now) (lists_of c.deref.result.now) is))
    (queues_some (map seen_sent c.args.sent.now) (queued_sent c.args.sent.now) some)
