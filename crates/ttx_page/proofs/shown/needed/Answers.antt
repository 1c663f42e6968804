use Rattle.std.proofs.Common.{ap, sym}
use Rattle.ttx_page.specs.Pages.{needed}
use Rattle.ttx_page.specs.Views.{page_of}
use Rattle.ttx_page.proofs.shown.needed.Goals as goal

pub returns-in-Links : goal.returns-in-Links
returns-in-Links c = ap (needed (page_of c.args.page.now)) (sym c.in-Links.is)
