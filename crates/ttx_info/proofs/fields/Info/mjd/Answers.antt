use Rattle.std.proofs.Common.{ap}
use Rattle.ttx_info.proofs.fields.Info.mjd.Goals as goal

pub returns : goal.returns
returns c = ap (λ v. v.mjd) c.self.view_is
