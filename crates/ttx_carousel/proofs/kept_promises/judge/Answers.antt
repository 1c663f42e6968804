use Rattle.std.proofs.Common.{◌≡◌, map, ap, ◌∙◌, subst}
use Rattle.ttx_cycle.specs.Cycles.{slots_of}
use Rattle.ttx_source.specs.PromiseViews.{promise_view}
use Rattle.ttx_carousel.specs.Judging.{IsShownLate}
use Rattle.ttx_carousel.specs.Waiting.{told_of, AllHaveFields, IsFirstWithout, AreInTime, IsFirstLateIn}
use Rattle.ttx_carousel.proofs.JudgedWaits.{all_told, all_seen, all_kept, is_unseen, is_first_late, judged_rest}
use Rattle.ttx_carousel.proofs.kept_promises.judge.Goals as goal

pub returns-in-Some : goal.returns-in-Some
returns-in-Some c =
    let w = c.in_ok-all.ensures in
    let told : map told_of c.deref.result.now ≡ w.told =
    ap (map told_of) (c.deref.ensures.value ∙ w.beside_promises) ∙ all_told 0 (map promise_view c.args.promises.now) w.told in
    is_unseen (slots_of c.args.cycle.now) c.args.service.now c.args.viewers.receivers.class c.args.viewers.repeat w.told w.waits c.in-Some.page
    (subst (λ t. IsFirstWithout t c.in-Some.page) told c.in-Some.ensures)

pub returns-in-Some-first_late : goal.returns-in-Some-first_late
returns-in-Some-first_late c =
    let w = c.in_ok-all.ensures in
    let told : map told_of c.deref.result.now ≡ w.told =
    ap (map told_of) (c.deref.ensures.value ∙ w.beside_promises) ∙ all_told 0 (map promise_view c.args.promises.now) w.told in
    let again : map told_of c.deref-2.result.now ≡ w.told =
    ap (map told_of) (c.deref-2.ensures.value ∙ w.beside_promises) ∙ all_told 0 (map promise_view c.args.promises.now) w.told in
    is_first_late (slots_of c.args.cycle.now) c.args.service.now c.args.viewers.receivers.class c.args.viewers.repeat w.told w.waits
    (subst AllHaveFields told c.in_default.ensures) (map promise_view c.args.promises.now) c.in-Some-first_late.late
    (subst (λ t. IsFirstLateIn t (map promise_view c.args.promises.now) c.in-Some-first_late.late) again c.in-Some-first_late.ensures)

pub returns : goal.returns
returns c =
    let w = c.in_ok-all.ensures in
    let told : map told_of c.deref.result.now ≡ w.told =
    ap (map told_of) (c.deref.ensures.value ∙ w.beside_promises) ∙ all_told 0 (map promise_view c.args.promises.now) w.told in
    let again : map told_of c.deref-2.result.now ≡ w.told =
    ap (map told_of) (c.deref-2.ensures.value ∙ w.beside_promises) ∙ all_told 0 (map promise_view c.args.promises.now) w.told in
    let has = subst AllHaveFields told c.in_default.ensures in
    judged_rest c.args.viewers (map promise_view c.args.promises.now) c.args.service.now (slots_of c.args.cycle.now)
    (all_seen (slots_of c.args.cycle.now) c.args.service.now c.args.viewers.receivers.class c.args.viewers.repeat w.told w.waits has)
    (all_kept (slots_of c.args.cycle.now) c.args.service.now c.args.viewers.receivers.class c.args.viewers.repeat w.told w.waits has
    (map promise_view c.args.promises.now)
    (subst (λ t. AreInTime t (map promise_view c.args.promises.now)) again c.in_default-first_late.ensures))
    c.never_shown.result
    (subst (λ ps. IsShownLate c.args.viewers.receivers.late (slots_of c.args.cycle.now) ps c.never_shown.result) c.pages.ensures.value
    c.never_shown.ensures)
