use Rattle.std.proofs.Common.{map, ap, ◌∙◌}
use Rattle.ttx_source.specs.PromiseViews.{promise_view}
use Rattle.ttx_carousel.specs.Layout.{turns as turns_of_pages}
use Rattle.ttx_carousel.proofs.CarouselRounds.{numbers_are_apart}
use Rattle.ttx_carousel.proofs.plans.carousel_of.Goals as goal

pub returns-in-Ok-clause-is : goal.returns-in-Ok-clause-is
returns-in-Ok-clause-is c = record {
  places = c.spread_places-places.result;
  spread = c.spread_places-places.ensures.spread;
  standings = c.in-Ok.ensures;
  turns = c.turns-turns.ensures.value ∙ ap (λ pages. turns_of_pages pages (map promise_view c.args.stays.now)) c.pages-pages.ensures.value;
  apart = λ laps. numbers_are_apart (map promise_view c.args.stays.now) c.args.service.now c.spread_places-places.result
      c.pages-pages.ensures.ranges laps c.args.receivers.class c.numbers_are_spread.ensures c.spread_places-places.ensures.spread;
}
