use Rattle.std.proofs.Common.{sym, ap, option_map}
use Rattle.ttx_page.specs.Views.{page_of}
use Rattle.ttx_tool.specs.Preview.{preview_status}
use Rattle.ttx_tool.proofs.commands.preview.preview_status.Goals as goal

pub returns-in-None : goal.returns-in-None
returns-in-None c = ap (λ page. preview_status (option_map (λ p. page_of p.now) page)) (sym c.in-None.is)
