use Rattle.std.proofs.Common.{◌≡◌, ◌++◌, ◌+◌, ◌*◌, ◌∙◌, suc, pos, map, sym, ap, subst, arith}
use Rattle.std.proofs.lemmas.List.{append-nil}
use Rattle.ttx_proof.specs.Joining.{shifted, periods_after}
use Rattle.ttx_proof.proofs.ShiftedTransmissions.{after_none, after_on, by_later}
use Rattle.ttx_proof.proofs.joined_items.push_after.Goals as goal

pub loop-gone-init : goal.loop-gone-init
loop-gone-init c = record {
  items = sym (append-nil c.args.list.now.items)
      ∙ ap (λ z. c.args.list.now.items ++ z) (sym (after_none c.args.period c.args.news.now));
}

pub loop-gone-preserved : goal.loop-gone-preserved
loop-gone-preserved c =
    let by = by_later c.slots_in.result ((c.loop-gone.gone + 1) * c.args.period) c.slots_in.ensures.slots c.slots_in.ensures.most in
    let next : c.loop-gone.gone + 1 ≡ suc c.loop-gone.gone = omega arith in
    record {
      items = subst (λ m. c.push_shifted.new.list.items ≡ c.args.list.now.items ++ periods_after c.args.period m c.args.news.now) (sym next)
          (after_on c.args.period c.loop-gone.gone c.args.news.now c.loop-gone.list.items c.push_shifted.new.list.items c.args.list.now.items
          (c.in_ok-push_shifted.ensures ∙ ap (λ d. c.loop-gone.list.items ++ map (shifted d) c.args.news.now)
          (by ∙ ap (λ m. pos (m * c.args.period)) next)) c.loop-gone.invariant.items);
    }
