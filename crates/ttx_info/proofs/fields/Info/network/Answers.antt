use Rattle.std.proofs.Common.{ap}
use Rattle.ttx_info.proofs.fields.Info.network.Goals as goal

pub returns : goal.returns
returns c = ap (λ v. v.network) c.self.view_is
