use Rattle.std.proofs.Common.{◌≡◌, ◌<◌, MatchOption, map, length, ap, sym, ◌∙◌, subst}
use Rattle.std.specs.Prelude.{IfSome}
use Rattle.ttx_source.specs.PromiseViews.{promise_view}
use Rattle.ttx_carousel.specs.Layout.{order}
use Rattle.ttx_carousel.specs.Orders.{AreBelow}
use Rattle.ttx_carousel.proofs.CarouselPlans.{standings_count, laid_out_if_ok, too_many}
use Rattle.ttx_carousel.proofs.plans.lay_out.Goals as goal

pub lay_out_order-requires-clause-within : goal.lay_out_order-requires-clause-within
lay_out_order-requires-clause-within c =
    let service = c.args.service.now in
    let count = ap length c.deref.ensures.value
    ∙ standings_count (map promise_view c.args.stays.now) service c.args.carousel.now c.requires.is c.args.laps in
    subst (AreBelow (length service.pages)) (sym c.deref-in-Ok-Some.ensures.value)
    (subst (λ n. AreBelow n c.in-Ok-Some.order.items) count
    (subst (λ o. IfSome o (λ xs. AreBelow (length c.deref.result.now) xs.items)) c.in-Ok-Some.field-0-is c.in-Ok-Some.ensures.within))

pub returns-in-Ok-Some : goal.returns-in-Ok-Some
returns-in-Ok-Some c =
    let turns = c.args.carousel.now.turns in
    let own = order c.deref.result.now turns c.args.laps in
    let is : c.in-Ok-Some.order.items ≡ own =
    subst (λ o. MatchOption o (65536 < length own) (λ xs. xs.items ≡ own)) c.in-Ok-Some.field-0-is c.in-Ok-Some.ensures.value in
    laid_out_if_ok (map promise_view c.args.stays.now) c.args.service.now c.args.carousel.now c.requires.is c.args.laps
    c.deref-in-Ok-Some.result.now
    (c.deref-in-Ok-Some.ensures.value ∙ is ∙ ap (λ s. order s turns c.args.laps) c.deref.ensures.value) c.lay_out_order.result
    c.lay_out_order.ensures

pub returns-in-Ok-None : goal.returns-in-Ok-None
returns-in-Ok-None c =
    let own = order c.deref.result.now c.args.carousel.now.turns c.args.laps in
    too_many (map promise_view c.args.stays.now) c.args.service.now c.args.carousel.now c.requires.is c.args.laps
    (subst (λ s. 65536 < length (order s c.args.carousel.now.turns c.args.laps)) c.deref.ensures.value
    (subst (λ o. MatchOption o (65536 < length own) (λ xs. xs.items ≡ own)) c.in-Ok-None.field-0-is c.in-Ok-None.ensures.value))
