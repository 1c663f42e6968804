use Rattle.std.proofs.Common.{ap, ◌∙◌, map}
use Rattle.std.specs.Prelude.{not}
use Rattle.ttx_page.specs.Views.{page_of}
use Rattle.ttx_source.specs.PromiseViews.{promise_view}
use Rattle.ttx_stays.specs.ShortNumbers.{keeps}
use Rattle.ttx_numbers.proofs.NumberedPages.{any_of_map}
use Rattle.ttx_stays.proofs.short_numbers.is_unkept.Goals as goal

pub returns : goal.returns
returns c = ap not (c.is_kept.ensures
    ∙ any_of_map promise_view (keeps (map page_of c.args.pages.now) (page_of c.args.page.now)) c.args.stays.now)
