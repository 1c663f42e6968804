use Rattle.std.proofs.Common.{ap}
use Rattle.ttx_header.proofs.headers.Header.control.Goals as goal

pub returns : goal.returns
returns c = ap (λ v. v.control) c.self.view_is
