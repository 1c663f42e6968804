use Rattle.std.proofs.Common.{refl, ◌∙◌, arith}
use Rattle.ttx_cycle.specs.Cycles.{slots_of}
use Rattle.ttx_page.specs.Views.{page_of}
use Rattle.ttx_source.specs.PromiseViews.{promise_view}
use Rattle.ttx_carousel.proofs.StaysOfNumbers.{page_there, is_short, is_long}
use Rattle.ttx_carousel.proofs.kept_promises.short_of.Goals as goal

pub returns-then-slots-stay : goal.returns-then-slots-stay
returns-then-slots-stay c =
    let listed = page_there c.pages-pages.result.now c.args.service.now.pages c.args.stay.page c.index-pages-index.result (omega arith)
    c.index-pages-index.is c.pages-pages.ensures.value in
    is_short (slots_of c.args.cycle.now) c.args.service.now (promise_view c.args.stay) _ (page_of c.index-pages-index.result) c.id-number.result
    c.stay_slots-slots.result c.from-lines.result listed c.id-number.ensures c.stay_slots-slots.ensures
    (c.from-lines.ensures ∙ c.lines.ensures.value) refl refl refl c.if-slots-stay.true

pub returns-else-slots-stay : goal.returns-else-slots-stay
returns-else-slots-stay c =
    let listed = page_there c.pages-pages.result.now c.args.service.now.pages c.args.stay.page c.index-pages-index.result (omega arith)
    c.index-pages-index.is c.pages-pages.ensures.value in
    is_long (slots_of c.args.cycle.now) c.args.service.now (promise_view c.args.stay) (page_of c.index-pages-index.result) c.id-number.result
    c.stay_slots-slots.result c.from-lines.result listed c.id-number.ensures c.stay_slots-slots.ensures
    (c.from-lines.ensures ∙ c.lines.ensures.value) c.if-slots-stay.false
