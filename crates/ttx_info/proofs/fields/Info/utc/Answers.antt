use Rattle.std.proofs.Common.{ap}
use Rattle.ttx_info.proofs.fields.Info.utc.Goals as goal

pub returns : goal.returns
returns c = ap (λ v. v.utc) c.self.view_is
