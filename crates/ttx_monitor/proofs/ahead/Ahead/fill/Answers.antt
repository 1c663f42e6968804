use Rattle.std.proofs.Common.{◌≡◌, ℕ, false, Option, Some, None, refl, sym, ◌∙◌, arith, subst}
use Rattle.std.specs.Option.{is_some}
use Rattle.std.proofs.lemmas.Bool.{both_ways}
use Rattle.ttx_cycle.specs.Counters.{inner_of}
use Rattle.ttx_monitor.specs.Waiting.{HasOneMore}
use Rattle.ttx_monitor.proofs.WaitingSlots.{same_left, no_more, more_more}
use Rattle.ttx_monitor.proofs.ahead.Ahead.fill.Goals as goal

none_of : (o : Option ℕ) → is_some o ≡ false → o ≡ None
none_of None h = refl
none_of (Some n) h = absurd (both_ways _ h refl)

pub loop-i-init : goal.loop-i-init
loop-i-init g c = record {
  left = same_left c.args.self.now c.forget.new.self (g.R.Read.remaining (inner_of c.args.feed.now)) c.in_ok-forget.ensures.waiting c.forget.ensures.end;
  more = no_more c.args.self.now c.forget.new.self c.in_ok-forget.ensures.waiting;
  open_end = none_of _ (sym c.is_some.ensures ∙ c.if-is_some.false);
  enough = omega arith;
  faults = refl;
}

pub loop-i-preserved : goal.loop-i-preserved
loop-i-preserved g c =
    let inv = c.loop-i.invariant in
    let one = subst (λ b. HasOneMore b c.loop-i.self c.read_one.new.self) c.if-not-is_slot.false c.in_ok-is_slot.ensures.one in
    record {
      left = λ bytes l. c.in_ok-is_slot.ensures.left bytes (inv.left bytes l);
      more = more_more c.args.self.now c.loop-i.self c.read_one.new.self inv.more c.in_ok-is_slot.ensures.more;
      open_end = one.0;
      enough = let e = inv.enough in let f = one.1 in omega arith;
      faults = c.in_ok-is_slot.ensures.faults.0 ∙ inv.faults;
    }

pub returns-then-not-is_slot-clause-left : goal.returns-then-not-is_slot-clause-left
returns-then-not-is_slot-clause-left g c = λ bytes l. c.in_ok-is_slot.ensures.left bytes (c.loop-i.invariant.left bytes l)

pub returns-then-not-is_slot-clause-more : goal.returns-then-not-is_slot-clause-more
returns-then-not-is_slot-clause-more g c =
    more_more c.args.self.now c.loop-i.self c.read_one.new.self c.loop-i.invariant.more c.in_ok-is_slot.ensures.more
