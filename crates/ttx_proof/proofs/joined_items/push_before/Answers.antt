use Rattle.std.proofs.Common.{◌≡◌, ◌++◌, ◌+◌, ◌-◌, ◌*◌, ◌∙◌, map, sym, ap, subst, arith}
use Rattle.std.proofs.lemmas.List.{append-nil}
use Rattle.ttx_proof.specs.Joining.{shifted, periods_before}
use Rattle.ttx_proof.proofs.ShiftedTransmissions.{before_none, before_on, by_earlier}
use Rattle.ttx_proof.proofs.joined_items.push_before.Goals as goal

pub loop-back-preserved : goal.loop-back-preserved
loop-back-preserved c =
    let by = by_earlier c.slots_in.result ((c.args.repeat - c.loop-back.back) * c.args.period) c.slots_in.ensures.slots c.slots_in.ensures.most in
    let next : c.args.repeat - c.loop-back.back - 1 ≡ c.args.repeat - (c.loop-back.back + 1) = omega arith in
    record {
      items = subst (λ m. c.push_shifted.new.list.items ++ periods_before c.args.period m c.args.olds.now ≡ c.args.list.now.items
          ++ periods_before c.args.period c.args.repeat c.args.olds.now) next
          (before_on c.args.period (c.args.repeat - c.loop-back.back) c.args.olds.now c.loop-back.list.items
          c.push_shifted.new.list.items _ (let t = c.loop-back-test.true in omega arith)
          (c.in_ok-push_shifted.ensures ∙ ap (λ d. c.loop-back.list.items ++ map (shifted d) c.args.olds.now) by) c.loop-back.invariant.items);
    }

pub returns : goal.returns
returns c =
    let k : c.args.repeat - c.loop-back.back ≡ 0 = let f = c.loop-back-test.false in omega arith in
    let none = ap (λ m. periods_before c.args.period m c.args.olds.now) k ∙ before_none c.args.period c.args.olds.now in
    sym (ap (λ z. c.loop-back.list.items ++ z) none ∙ append-nil c.loop-back.list.items) ∙ c.loop-back.invariant.items
