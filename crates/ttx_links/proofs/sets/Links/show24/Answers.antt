use Rattle.std.proofs.Common.{ap}
use Rattle.ttx_links.proofs.sets.Links.show24.Goals as goal

pub returns : goal.returns
returns c = ap (λ v. v.set.show24) c.self.view_is
