use Rattle.std.proofs.Common.{◌≡◌, ℕ, ◌||◌, not, Bool, true, false, if◌then◌else◌, refl, sym, ◌∙◌, arith}
use Rattle.ttx_packet.specs.Slots.{is_empty}
use Rattle.ttx_monitor.specs.Totals.{wrong_bits_at}
use Rattle.ttx_monitor.proofs.WrongBytes.{first_sum, next_sum}
use Rattle.ttx_monitor.proofs.comparison.wrong_bits.Goals as goal

uncounted : (b : Bool) (n : ℕ) → not b ≡ false → 0 ≡ (if b then 0 else n)
uncounted true n e = refl
uncounted false n e = cc

pub returns-then-not-has_bits : goal.returns-then-not-has_bits
returns-then-not-has_bits c = uncounted (is_empty c.args.sent.now || is_empty c.args.received.now) _ (sym c.has_bits.ensures ∙ c.if-not-has_bits.true)

pub loop-x-init : goal.loop-x-init
loop-x-init c = record { few = omega arith; summed = sym (first_sum (wrong_bits_at c.args.sent.now c.args.received.now)) }

pub loop-x-preserved : goal.loop-x-preserved
loop-x-preserved c =
    let of = wrong_bits_at c.args.sent.now c.args.received.now in
    let inv = c.loop-x.invariant in
    record {
      few = let f = inv.few in let g = c.wrong_bits_of-wrong.ensures.few in omega arith;
      summed = let n = next_sum of c.loop-x.x in let e = inv.summed in let i = c.wrong_bits_of-wrong.ensures.is in omega arith;
    }
