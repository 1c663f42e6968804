use Rattle.std.proofs.Common.{ap}
use Rattle.ttx_header.proofs.ids.PageId.page.Goals as goal

pub returns : goal.returns
returns c = ap (λ v. v.page) c.self.view_is
