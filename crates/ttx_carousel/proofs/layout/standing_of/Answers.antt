use Rattle.std.proofs.Common.{map, ap, sym, ◌∙◌, arith}
use Rattle.ttx_page.specs.Views.{page_of}
use Rattle.ttx_source.specs.PromiseViews.{promise_view}
use Rattle.ttx_carousel.proofs.CarouselLayout.{stands_once, stands_in_rounds}
use Rattle.ttx_carousel.proofs.layout.standing_of.Goals as goal

pub returns-then-has_stays : goal.returns-then-has_stays
returns-then-has_stays c = λ p e.
    stands_once c.args.service.now (map promise_view c.args.stays.now) c.args.places.now c.args.index p c.pages-pages.result.now
    c.index-pages-index.result c.pages-pages.ensures.value (omega (arith, c.requires.index, c.pages-pages.ensures.count)) c.index-pages-index.is e
    c.once.result c.args.turns c.requires.turns (sym c.has_stays.ensures ∙ c.if-has_stays.true) c.once.ensures

pub returns-else-has_stays : goal.returns-else-has_stays
returns-else-has_stays c = λ p e.
    stands_in_rounds c.args.service.now (map promise_view c.args.stays.now) c.args.places.now c.args.index p c.pages-pages.result.now
    c.index-pages-index.result c.pages-pages.ensures.value (omega (arith, c.requires.index, c.pages-pages.ensures.count)) c.index-pages-index.is e
    c.often.result c.place_at.result c.often.ensures (sym c.has_stays.ensures ∙ c.if-has_stays.false) c.place_at.ensures
