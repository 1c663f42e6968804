use Rattle.std.proofs.Common.{map, ◌∙◌}
use Rattle.std.specs.Prelude.{not}
use Rattle.ttx_page.specs.Views.{page_of}
use Rattle.ttx_source.specs.PromiseViews.{promise_view}
use Rattle.ttx_carousel.specs.Layout.{has_stays}
use Rattle.ttx_numbers.proofs.NumberedPages.{any_of_map}
use Rattle.ttx_carousel.proofs.layout.has_others.Goals as goal

pub returns : goal.returns
returns c =
    c.some_other.ensures
    ∙ any_of_map page_of (λ p. not (has_stays (map page_of c.args.pages.now) (map promise_view c.args.stays.now) p)) c.args.pages.now
