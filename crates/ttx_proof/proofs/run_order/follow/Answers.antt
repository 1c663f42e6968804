use Rattle.std.proofs.Common.{◌≡◌, ◌∙◌, ◌+◌, ◌-◌, false, get_or, drop, sym, ap, subst, refl, arith}
use Rattle.std.proofs.lemmas.List.{drop_all}
use Rattle.std.proofs.lemmas.Bool.{both_ways}
use Rattle.ttx_proof.specs.Bridging.{FollowsAfter, counted, is_late}
use Rattle.ttx_proof.specs.NamedStarts.{stands_at_start}
use Rattle.ttx_proof.proofs.CountingRuns.{counted_on, counted_off, counted_late, no_run, nothing}
use Rattle.ttx_proof.proofs.run_order.follow.Goals as goal
use Rattle.ttx_proof.proofs.run_order.follow.Goals.{then-counts+else-is_late, else-counts}

pub loop-at-init : goal.loop-at-init
loop-at-init c = record { left = (λ a. a, λ a. a) }

pub returns-then-is_late : goal.returns-then-is_late
returns-then-is_late c =
    let named = stands_at_start c.args.starts.now in
    let some = c.requires in
    let place : c.loop-at.at + c.args.repeat - 1 ≡ c.loop-at.at + (c.args.repeat - 1) = omega arith in
    let late = ap (λ n. is_late c.loop-at.previous c.args.limit (get_or c.args.sent.now n nothing).slot) (sym place)
    ∙ sym c.is_late.ensures ∙ c.if-is_late.true in (
      λ answer. absurd (both_ways false refl answer),
      λ all. absurd (counted_late named (c.args.repeat - 1) c.args.limit c.args.sent.now c.loop-at.at nothing c.loop-at-test.true
          c.loop-at.previous (sym c.counts.ensures ∙ c.if-counts.true) late (c.loop-at.invariant.left.0 all)),
    )

pub loop-at-preserved : goal.loop-at-preserved
loop-at-preserved c =
    let named = stands_at_start c.args.starts.now in
    let some = c.requires in
    let place : c.loop-at.at + c.args.repeat - 1 ≡ c.loop-at.at + (c.args.repeat - 1) = omega arith in
    let before = c.loop-at.invariant.left in
    elim c.if-counts.branch [
      | then-counts+else-is_late w ↦
          let late = ap (λ n. is_late c.loop-at.previous c.args.limit (get_or c.args.sent.now n nothing).slot) (sym place)
          ∙ sym w.is_late.ensures ∙ w.if-is_late.false in
          let on = counted_on named (c.args.repeat - 1) c.args.limit c.args.sent.now c.loop-at.at nothing c.loop-at-test.true
          c.loop-at.previous (sym c.counts.ensures ∙ w.if-counts.true) late in
          let e = sym (w.previous-is ∙ w.owner_of-previous.ensures) in
          record {
            left = (
              (λ a. subst (λ o. FollowsAfter c.args.limit o
                  (counted named (c.args.repeat - 1) (drop (c.loop-at.at + 1) c.args.sent.now))) e (on.0 (before.0 a))),
              (λ b. before.1 (on.1 (subst (λ o. FollowsAfter c.args.limit o
                  (counted named (c.args.repeat - 1) (drop (c.loop-at.at + 1) c.args.sent.now))) (sym e) b))),
            );
          }
      | else-counts w ↦
          let off = counted_off named (c.args.repeat - 1) c.args.limit c.args.sent.now c.loop-at.at nothing c.loop-at-test.true
          c.loop-at.previous (sym c.counts.ensures ∙ w.if-counts.false) in
          let e = sym w.previous-is in
          record {
            left = (
              (λ a. subst (λ o. FollowsAfter c.args.limit o
                  (counted named (c.args.repeat - 1) (drop (c.loop-at.at + 1) c.args.sent.now))) e (off.0 (before.0 a))),
              (λ b. before.1 (off.1 (subst (λ o.
                  FollowsAfter c.args.limit o (counted named (c.args.repeat - 1) (drop (c.loop-at.at + 1) c.args.sent.now)))
                  (sym e) b))),
            );
          }
    ]

pub returns : goal.returns
returns c =
    let named = stands_at_start c.args.starts.now in
    let none = drop_all c.loop-at.at c.args.sent.now c.loop-at-test.false in (
      λ yes_answer. c.loop-at.invariant.left.1
          (subst (λ ts. FollowsAfter c.args.limit c.loop-at.previous (counted named (c.args.repeat - 1) ts)) (sym none)
          (no_run named (c.args.repeat - 1) c.args.limit c.loop-at.previous)),
      λ all. refl,
    )
