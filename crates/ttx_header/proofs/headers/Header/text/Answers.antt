use Rattle.std.proofs.Common.{ap}
use Rattle.ttx_header.proofs.headers.Header.text.Goals as goal

pub returns : goal.returns
returns c = ap (λ v. v.text) c.self.view_is
