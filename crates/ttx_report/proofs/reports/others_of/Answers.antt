use Rattle.std.proofs.Common.{◌∙◌, ap}
use Rattle.ttx_promise.specs.OtherPages.{other_pages}
use Rattle.ttx_source.specs.Services.{authored_ids}
use Rattle.ttx_report.proofs.AuthoredIds.{same_ids}
use Rattle.ttx_report.proofs.reports.others_of.Goals as goal

pub returns-in-Ok : goal.returns-in-Ok
returns-in-Ok c =
    let authored = c.args.service.now.pages in
    c.in-Ok.ensures ∙ ap (other_pages c.slots.result.now) (same_ids c.pages.result.now authored c.pages.ensures.value)
    ∙ ap (λ slots. other_pages slots (authored_ids authored)) c.slots.ensures.slots
