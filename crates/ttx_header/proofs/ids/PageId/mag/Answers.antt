use Rattle.std.proofs.Common.{ap}
use Rattle.ttx_header.proofs.ids.PageId.mag.Goals as goal

pub returns-clause-value : goal.returns-clause-value
returns-clause-value c = ap (λ v. v.mag) c.self.view_is
