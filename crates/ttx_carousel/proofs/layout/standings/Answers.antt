use Rattle.std.proofs.Common.{◌≡◌, ◌+◌, ◌<◌, ◌++◌, ◌∷◌, [], suc, length, map, ap, sym, ◌∙◌, subst, arith}
use Rattle.std.specs.Prelude.{slice_get}
use Rattle.ttx_source.specs.PromiseViews.{promise_view}
use Rattle.ttx_source.specs.Services.{pages_of}
use Rattle.ttx_carousel.specs.Layout.{standings_to, standing_at}
use Rattle.ttx_carousel.proofs.CarouselLayout.{listed_there}
use Rattle.ttx_carousel.proofs.layout.standings.Goals as goal

pub loop-index-preserved : goal.loop-index-preserved
loop-index-preserved c =
    let i = c.loop-index.index in
    let service = c.args.service.now in
    let stays = map promise_view c.args.stays.now in
    let places = c.args.places.now in
    let inside : i < length service.pages = omega (arith, c.loop-index-test.true, c.pages-count.ensures.count) in
    let p = listed_there service.pages i inside in
    let next : i + 1 ≡ suc i = omega arith in
    subst (λ n. c.push.new.self.items ≡ standings_to service stays places n) (sym next)
    (c.in_ok-push.ensures.items ∙ ap (λ xs. xs ++ c.standing_of.result ∷ []) c.loop-index.invariant
    ∙ ap (λ s. standings_to service stays places i ++ s ∷ []) (c.standing_of.ensures p.0 p.1)
    ∙ ap (λ o. standings_to service stays places i ++ standing_at (pages_of service) stays places i o) (sym p.1))

pub returns : goal.returns
returns c =
    let e : c.loop-index.index ≡ length c.args.service.now.pages =
    let a = c.loop-index.auto.index-end in let b = c.loop-index-test.false in omega (arith, a, b, c.pages-count.ensures.count) in
    c.loop-index.invariant ∙ ap (standings_to c.args.service.now (map promise_view c.args.stays.now) c.args.places.now) e
