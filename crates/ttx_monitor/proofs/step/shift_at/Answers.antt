use Rattle.std.proofs.Common.{◌+◌, ◌<◌, ◌%◌, not, length, take, Some, None, sym, ap, ◌∙◌, subst, inl, inr, arith, mod-eq_of_lt}
use Rattle.std.proofs.lemmas.Nat.{mod_below}
use Rattle.std.proofs.lemmas.List.{length-take}
use Rattle.ttx_cycle.specs.Counters.{inner_of}
use Rattle.ttx_cycle.specs.Cycles.{slots_of}
use Rattle.ttx_packet.specs.Receptions.{MayBeReceivedAs}
use Rattle.ttx_monitor.specs.Breaches.{IsSlotJudged}
use Rattle.ttx_monitor.specs.Waiting.{waiting, IsEnough}
use Rattle.ttx_monitor.specs.Slips.{IsSlip}
use Rattle.ttx_monitor.specs.Events.{place_of}
use Rattle.ttx_monitor.proofs.HeardSlot.{not_received, none_told}
use Rattle.ttx_monitor.proofs.SteppedFeeds.{still_begins, period}
use Rattle.ttx_monitor.proofs.step.shift_at.Goals as goal

pub slip-requires : goal.slip-requires
slip-requires g c =
    let count = length c.slots-count.result.now in
    let same = ap length c.slots-count.ensures.slots in
    let some = c.slots-count.ensures.cycle.some in
    record {
      few = let t = length-take count (waiting c.fill.new.self) in let e = ap length c.window.ensures in omega arith;
      inside = let b = mod_below c.place.result count some in omega arith;
    }

pub returns-then-is_none-clause-placed : goal.returns-then-is_none-clause-placed
returns-then-is_none-clause-placed g c = λ w slots bytes st left begins.
    let due = c.due.ensures.is w slots st in
    let fits = subst (IsSlotJudged c.due.result.now c.args.slot.now) (none_told c.slot_breach.result (c.is_none.ensures ∙ ap not c.if-is_none.true)) c.slot_breach.ensures in
    record {
      told = inl (subst (λ s. IsSlotJudged s c.args.slot.now None) due fits);
      stands = st;
      left = left;
      begins = begins;
    }

pub returns-in-None-clause-placed : goal.returns-in-None-clause-placed
returns-in-None-clause-placed g c = λ w slots bytes st left begins.
    let cycle = c.cycle-cycle.ensures w slots st in
    let same = c.slots-count.ensures.slots ∙ cycle in
    let cyc : 0 < length w.cycle = subst (λ l. 0 < length l) same c.slots-count.ensures.cycle.some in
    let place = ap (λ l. c.place.result % length l) same ∙ ap (λ p. p % length w.cycle) (c.place.ensures w slots st)
    ∙ mod-eq_of_lt (mod_below (w.start + length slots) (length w.cycle) cyc) in
    let filled = c.in_ok-fill.ensures.left bytes left in
    let enough = subst (λ l. IsEnough (length l) c.fill.new.self) same c.in_ok-fill.ensures.enough in
    let window = c.window.ensures ∙ ap (λ l. take (length l) (waiting c.fill.new.self)) same in
    record {
      told = inr (
        take (length w.cycle) (waiting c.fill.new.self),
        period w.cycle c.fill.new.self (g.R.Read.remaining (inner_of c.fill.new.feed)) bytes filled enough,
        subst (λ l. IsSlip l (take (length w.cycle) (waiting c.fill.new.self)) (place_of w (length slots)) None) cycle
            (subst (λ l. IsSlip (slots_of c.cycle-cycle.result.now) l (place_of w (length slots)) None) window
            (subst (λ p. IsSlip (slots_of c.cycle-cycle.result.now) c.window.result.now p None) place c.in-None.ensures)),
      );
      stands = st;
      left = filled;
      begins = still_begins c.args.ahead.now c.fill.new.self c.args.slot.now begins c.in_ok-fill.ensures.more;
    }

pub returns-in-Some-clause-placed : goal.returns-in-Some-clause-placed
returns-in-Some-clause-placed g c = λ w slots bytes st left begins.
    let by = c.in-Some.by in
    let due = c.due.ensures.is w slots st in
    let cycle = c.cycle-cycle.ensures w slots st in
    let same = c.slots-count.ensures.slots ∙ cycle in
    let cyc : 0 < length w.cycle = subst (λ l. 0 < length l) same c.slots-count.ensures.cycle.some in
    let place = ap (λ l. c.place.result % length l) same ∙ ap (λ p. p % length w.cycle) (c.place.ensures w slots st)
    ∙ mod-eq_of_lt (mod_below (w.start + length slots) (length w.cycle) cyc) in
    let filled = c.in_ok-fill.ensures.left bytes left in
    let enough = subst (λ l. IsEnough (length l) c.fill.new.self) same c.in_ok-fill.ensures.enough in
    let window = c.window.ensures ∙ ap (λ l. take (length l) (waiting c.fill.new.self)) same in
    let slipped = subst (λ l. IsSlip l (take (length w.cycle) (waiting c.fill.new.self)) (place_of w (length slots)) (Some by)) cycle
    (subst (λ l. IsSlip (slots_of c.cycle-cycle.result.now) l (place_of w (length slots)) (Some by)) window
    (subst (λ p. IsSlip (slots_of c.cycle-cycle.result.now) c.window.result.now p (Some by)) place c.in-Some.ensures)) in
    record {
      told = (
        (λ may. not_received c.due.result.now c.args.slot.now c.slot_breach.result
            (c.is_none.ensures ∙ ap not c.if-is_none.false) c.slot_breach.ensures (subst (λ s. MayBeReceivedAs s c.args.slot.now) (sym due) may)),
        (
          take (length w.cycle) (waiting c.fill.new.self),
          period w.cycle c.fill.new.self (g.R.Read.remaining (inner_of c.fill.new.feed)) bytes filled enough,
          slipped,
        ),
      );
      stands = c.move_on.ensures w slots st slipped.2;
      left = filled;
      begins = still_begins c.args.ahead.now c.fill.new.self c.args.slot.now begins c.in_ok-fill.ensures.more;
    }
