use Rattle.std.proofs.Common.{ap}
use Rattle.ttx_info.proofs.fields.Info.west.Goals as goal

pub returns : goal.returns
returns c = ap (λ v. v.west) c.self.view_is
