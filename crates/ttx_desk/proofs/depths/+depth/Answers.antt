use Rattle.std.proofs.Common.{refl}
use Rattle.ttx_desk.proofs.Deepest.{items-within, members-within}
use Rattle.ttx_desk.proofs.depths.+depth.Goals as goal

pub are_items_within-loop-item-preserved : goal.are_items_within-loop-item-preserved
are_items_within-loop-item-preserved t c =
    let here = items-within c.args.items.now c.loop-item.item-index c.args.most c.item-item.result c.loop-item-test.true c.item-item.is in (
      (λ rest. c.loop-item.invariant.0 (here.1 (c.if-not-is_value_within.ensures.0 refl, rest))),
      (λ all. (here.0 (c.loop-item.invariant.1 all)).1),
    )

pub is_within-loop-key-preserved : goal.is_within-loop-key-preserved
is_within-loop-key-preserved t c =
    let here = members-within c.loop-key._key-iterator c.next.new.self (c.in-Some._key.now, c.in-Some.value.now) c.args.most c.in-Some.ensures.steps in (
      (λ rest. c.loop-key.invariant.0 (here.1 (c.if-not-is_value_within.ensures.0 refl, rest))),
      (λ all. (here.0 (c.loop-key.invariant.1 all)).1),
    )
