use Rattle.std.proofs.Common.{ap}
use Rattle.ttx_links.proofs.targets.Target.page.Goals as goal

pub returns : goal.returns
returns c = ap (λ v. v.page) c.self.view_is
