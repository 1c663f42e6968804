use Rattle.std.proofs.Common.{ap}
use Rattle.ttx_links.proofs.targets.Target.sub.Goals as goal

pub returns : goal.returns
returns c = ap (λ v. v.sub) c.self.view_is
