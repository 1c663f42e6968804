use Rattle.std.proofs.Common.{◌∙◌, ◌≤◌, length, map, pos, sym, subst, ap, arith}
use Rattle.ttx_cycle.specs.Cycles.{slots_of, slots_of-IsCycle}
use Rattle.ttx_page.specs.Streams.{repeated}
use Rattle.ttx_page.specs.Views.{page_of}
use Rattle.ttx_subpages.specs.Lacks.{IsLackAt, IsFirstLack}
use Rattle.ttx_subpages.specs.Numbers.{AllSendWholeAt, AllSendWhole}
use Rattle.ttx_subpages.proofs.HeadersOfNumbers.{whole_more, all_whole, if_some, if_none, WholeBelow}
use Rattle.ttx_subpages.proofs.lacks.lack_among.Goals as goal

pub returns-then-is_some : goal.returns-then-is_some
returns-then-is_some c =
    let v = c.args.sendings.now in
    let cycle = slots_of v.cycle.now in
    let pages = map page_of v.pages.now in
    if_some (AllSendWholeAt (repeated cycle) pages v.lines (pos c.loop-slot.slot)) (AllSendWhole (repeated cycle) pages v.lines)
    (IsLackAt cycle pages v.lines c.loop-slot.slot) (IsFirstLack cycle pages v.lines) c.lack_at-lack.result (sym c.is_some.ensures ∙ c.if-is_some.true)
    (λ lack is. record { is = is.1; none_before = subst (WholeBelow cycle pages v.lines) (sym is.0) c.loop-slot.invariant.whole })
    c.lack_at-lack.ensures

pub loop-slot-preserved : goal.loop-slot-preserved
loop-slot-preserved c =
    let v = c.args.sendings.now in
    let cycle = slots_of v.cycle.now in
    let pages = map page_of v.pages.now in
    record {
      whole = whole_more cycle pages v.lines c.loop-slot.slot c.loop-slot.invariant.whole
          (if_none (AllSendWholeAt (repeated cycle) pages v.lines (pos c.loop-slot.slot)) (IsLackAt cycle pages v.lines c.loop-slot.slot)
          c.lack_at-lack.result (sym c.is_some.ensures ∙ c.if-is_some.false) c.lack_at-lack.ensures);
    }

pub returns : goal.returns
returns c =
    let v = c.args.sendings.now in
    let cycle = slots_of v.cycle.now in
    let past : length cycle ≤ c.loop-slot.slot = let e = ap length c.slots-slot-end.ensures.slots in let t = c.loop-slot-test.false in omega arith in
    let is = slots_of-IsCycle v.cycle.now in
    all_whole cycle (map page_of v.pages.now) v.lines c.each_slot_turns.ensures c.streams_move.ensures is.some c.loop-slot.slot past
    c.loop-slot.invariant.whole
