use Rattle.std.proofs.Common.{refl, inl, inr, ap, ◌∙◌, arith, map, length, subst, ◌≡◌}
use Rattle.std.proofs.lemmas.List.{length-map}
use Rattle.ttx_cycle.specs.Cycles.{slots_of}
use Rattle.ttx_source.specs.PromiseViews.{promise_view}
use Rattle.ttx_carousel.specs.Judging.{AreShortTo, AreShort}
use Rattle.ttx_carousel.proofs.StaysOfNumbers.{told_next, all_kept_alike}
use Rattle.ttx_carousel.proofs.kept_promises.short_stays.Goals as goal
use Rattle.ttx_carousel.proofs.kept_promises.short_stays.Goals.{in-Some+in_ok-tell, in_default}

pub loop-stay-preserved : goal.loop-stay-preserved
loop-stay-preserved c =
    let stays = c.args.stays.now in
    let service = c.args.service.now in
    let cycle = slots_of c.args.cycle.now in
    let before = c.loop-stay.told.items in
    elim c.match-short_of.branch [
      | in-Some+in_ok-tell w ↦ told_next stays service cycle c.loop-stay.stay-index _ (omega (arith, c.loop-stay-test.true)) before
          c.match-short_of.told.items c.loop-stay.invariant
          (inr (w.in-Some.short, w.in-Some.ensures, ap (λ v. v.items) w.told-is ∙ w.in_ok-tell.ensures))
      | in_default w ↦ told_next stays service cycle c.loop-stay.stay-index _ (omega (arith, c.loop-stay-test.true)) before
          c.match-short_of.told.items c.loop-stay.invariant (inl (w.in_default.ensures, ap (λ v. v.items) w.told-is))
    ]

pub returns-clause-are : goal.returns-clause-are
returns-clause-are c =
    let size = length-map c.args.stays.now promise_view in
    let e : c.loop-stay.stay-index ≡ length (map promise_view c.args.stays.now) =
    let a = c.loop-stay.auto.stay-index-end in let b = c.loop-stay-test.false in omega (arith, size, a, b) in
    subst (λ n. AreShortTo (map promise_view c.args.stays.now) c.args.service.now (slots_of c.args.cycle.now) n c.loop-stay.told.items) e
    c.loop-stay.invariant

pub returns-clause-none : goal.returns-clause-none
returns-clause-none c =
    let size = length-map c.args.stays.now promise_view in
    let e : c.loop-stay.stay-index ≡ length (map promise_view c.args.stays.now) =
    let a = c.loop-stay.auto.stay-index-end in let b = c.loop-stay-test.false in omega (arith, size, a, b) in
    λ none. all_kept_alike (map promise_view c.args.stays.now) c.args.service.now (slots_of c.args.cycle.now) c.loop-stay.told.items
    (subst (λ n. AreShortTo (map promise_view c.args.stays.now) c.args.service.now (slots_of c.args.cycle.now) n c.loop-stay.told.items) e
    c.loop-stay.invariant) none
