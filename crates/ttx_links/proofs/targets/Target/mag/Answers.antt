use Rattle.std.proofs.Common.{ap}
use Rattle.ttx_links.proofs.targets.Target.mag.Goals as goal

pub returns-clause-value : goal.returns-clause-value
returns-clause-value c = ap (λ v. v.mag) c.self.view_is
