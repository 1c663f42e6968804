use Rattle.ttx_counter.proofs.CheckIsExact.{page_here}
use Rattle.ttx_counter.proofs.claim.page_at.Goals as goal

pub returns : goal.returns
returns c = page_here c.args.pages.now c.args.index c.index-pages-index.result c.requires c.index-pages-index.is
