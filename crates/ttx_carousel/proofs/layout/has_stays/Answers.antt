use Rattle.std.proofs.Common.{map, ◌∙◌}
use Rattle.ttx_page.specs.Views.{page_of}
use Rattle.ttx_source.specs.PromiseViews.{promise_view}
use Rattle.ttx_carousel.specs.Layout.{is_stay_of}
use Rattle.ttx_numbers.proofs.NumberedPages.{any_of_map}
use Rattle.ttx_carousel.proofs.layout.has_stays.Goals as goal

pub returns : goal.returns
returns c =
    c.some_stay.ensures ∙ any_of_map promise_view (is_stay_of (map page_of c.args.pages.now) (page_of c.args.page.now)) c.args.stays.now
