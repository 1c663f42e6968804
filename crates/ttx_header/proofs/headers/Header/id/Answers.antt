use Rattle.std.proofs.Common.{ap}
use Rattle.ttx_header.proofs.headers.Header.id.Goals as goal

pub returns-clause-value : goal.returns-clause-value
returns-clause-value c = ap (λ v. v.id) c.self.view_is
