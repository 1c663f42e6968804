use Rattle.std.proofs.Common.{◌≡◌, ◌+◌, ◌%◌, ◌<◌, length, get_or, sym, ap, ◌∙◌, subst, arith, [], mod-eq_of_lt}
use Rattle.std.proofs.lemmas.Nat.{mod_below}
use Rattle.ttx_packet.specs.Receptions.{MayBeReceivedAs}
use Rattle.ttx_monitor.specs.Starting.{FitsAt, Misfits, judged_slots}
use Rattle.ttx_monitor.proofs.FeedStreaks.{turn_next}
use Rattle.ttx_monitor.proofs.MisfitCounts.{grow, none_yet, fit_more, misfit_more}
use Rattle.ttx_monitor.proofs.feed_start.misfits_below.Goals as goal
use Rattle.ttx_monitor.proofs.feed_start.misfits_below.Goals.{then-not-fits+else-misfits-limit, else-not-fits}

pub loop-n-init : goal.loop-n-init
loop-n-init c =
    let x = c.slots-slots.result.now in
    let inside : c.args.start < length x = let e = ap length c.slots-slots.ensures.slots in let h = c.requires.inside in omega arith in
    let z : c.args.start ≡ c.args.start + 0 = omega arith in
    record {
      below = omega arith;
      few = omega arith;
      at = sym (mod-eq_of_lt inside) ∙ ap (λ k. k % length x) z;
      counted = none_yet x c.args.head.now c.args.start;
    }

pub returns-then-misfits-limit-clause-count : goal.returns-then-misfits-limit-clause-count
returns-then-misfits-limit-clause-count c = λ total all.
    let x = c.slots-slots.result.now in
    let head = c.args.head.now in
    let misfit = λ (f : FitsAt x head c.args.start c.loop-n.n).
    c.fits.ensures.misfit c.if-not-fits.true (subst (λ z. MayBeReceivedAs (get_or x z []) (get_or head c.loop-n.n [])) (sym c.loop-n.invariant.at) f) in
    let more = misfit_more x head c.args.start c.loop-n.n c.loop-n.misfits misfit c.loop-n.invariant.counted in
    let m = c.min-n-end.ensures in
    let whole = subst (λ y. Misfits y head c.args.start (judged_slots y head) total) (sym c.slots-slots.ensures.slots) all in
    let h = grow x head c.args.start (judged_slots x head) (c.loop-n.n + 1) (c.loop-n.misfits + 1) total (omega arith) more whole in
    omega arith

pub loop-n-preserved : goal.loop-n-preserved
loop-n-preserved c =
    let x = c.slots-slots.result.now in
    let head = c.args.head.now in
    let some : 0 < length x = c.slots-slots.ensures.cycle.some in
    let inv = c.loop-n.invariant in
    let inside : c.loop-n.at < length x = subst (λ z. z < length x) (sym inv.at) (mod_below (c.args.start + c.loop-n.n) (length x) some) in
    let after : c.args.start + c.loop-n.n + 1 ≡ c.args.start + (c.loop-n.n + 1) = omega arith in
    let at = c.next-at.ensures inside ∙ ap (λ z. (z + 1) % length x) inv.at ∙ turn_next (c.args.start + c.loop-n.n) (length x) some
    ∙ ap (λ z. z % length x) after in
    elim c.if-not-fits.branch [
      | then-not-fits+else-misfits-limit w ↦
          let misfit = λ (f : FitsAt x head c.args.start c.loop-n.n).
          c.fits.ensures.misfit w.if-not-fits.true (subst (λ z. MayBeReceivedAs (get_or x z []) (get_or head c.loop-n.n [])) (sym inv.at) f) in
          record {
            below = let d = w.misfits-is in let e = w.if-misfits-limit.false in omega arith;
            few = omega arith;
            at = at;
            counted = subst (Misfits x head c.args.start (c.loop-n.n + 1)) (sym w.misfits-is)
                (misfit_more x head c.args.start c.loop-n.n c.loop-n.misfits misfit inv.counted);
          }
      | else-not-fits w ↦
          record {
            below = let d = w.misfits-is in let e = inv.below in omega arith;
            few = omega arith;
            at = at;
            counted = subst (Misfits x head c.args.start (c.loop-n.n + 1)) (sym w.misfits-is)
                (fit_more x head c.args.start c.loop-n.n c.loop-n.misfits
                (subst (λ z. MayBeReceivedAs (get_or x z []) (get_or head c.loop-n.n [])) inv.at (c.fits.ensures.fit w.if-not-fits.false)) inv.counted);
          }
    ]
