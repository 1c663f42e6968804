use Rattle.std.proofs.Common.{◌≡◌, ◌<◌, ◌≤◌, [], length, get_or, Some, None, sym, ap, ◌∙◌, subst, arith}
use Rattle.ttx_cycle.specs.Cycles.{slots_of}
use Rattle.ttx_extract.specs.FirstPackets.{slot_info}
use Rattle.ttx_extract.proofs.FirstInfos.{found, none_yet, none, none_more}
use Rattle.ttx_extract.proofs.infos.first_info.Goals as goal

pub returns-in-Some : goal.returns-in-Some
returns-in-Some c =
    let slots = slots_of c.args.cycle.now in
    let i = c.loop-slot.slot in
    let same = c.slots-slots.ensures.slots in
    let lt : i < length slots = subst (λ s. i < length s) same c.loop-slot-test.true in
    let is : slot_info (get_or slots i []) ≡ Some c.in-Some.info =
    subst (λ s. slot_info (get_or s i []) ≡ Some c.in-Some.info) same (sym c.slot_info.ensures ∙ c.in-Some.is) in (
      found slots i c.loop-slot.invariant.rest lt c.in-Some.info is,
      record { within = lt; here = is; none_before = c.loop-slot.invariant.before },
    )

pub loop-slot-preserved : goal.loop-slot-preserved
loop-slot-preserved c =
    let slots = slots_of c.args.cycle.now in
    let i = c.loop-slot.slot in
    let same = c.slots-slots.ensures.slots in
    let lt : i < length slots = subst (λ s. i < length s) same c.loop-slot-test.true in
    let is : slot_info (get_or slots i []) ≡ None = subst (λ s. slot_info (get_or s i []) ≡ None) same (sym c.slot_info.ensures ∙ c.in_default.is) in
    record { rest = none_yet slots i c.loop-slot.invariant.rest lt is; before = none_more slots i c.loop-slot.invariant.before is }

pub returns : goal.returns
returns c =
    let slots = slots_of c.args.cycle.now in
    let past : length slots ≤ c.loop-slot.slot = let l = ap length c.slots-slots.ensures.slots in let t = c.loop-slot-test.false in omega arith in
    none slots c.loop-slot.slot c.loop-slot.invariant.rest past
