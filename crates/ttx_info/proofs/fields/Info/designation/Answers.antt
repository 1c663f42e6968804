use Rattle.std.proofs.Common.{ap}
use Rattle.ttx_info.proofs.fields.Info.designation.Goals as goal

pub returns-clause-value : goal.returns-clause-value
returns-clause-value c = ap (λ v. v.designation) c.self.view_is
