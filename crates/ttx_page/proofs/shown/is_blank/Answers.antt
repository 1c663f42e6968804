use Rattle.std.proofs.Common.{ap, sym}
use Rattle.ttx_page.specs.Pages.{is_blank}
use Rattle.ttx_page.specs.Views.{page_of}
use Rattle.ttx_page.proofs.shown.is_blank.Goals as goal

pub returns-in-Head : goal.returns-in-Head
returns-in-Head c = ap (is_blank (page_of c.args.page.now)) (sym c.in-Head.is)
