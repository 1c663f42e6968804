use Rattle.std.proofs.Common.{ap}
use Rattle.ttx_header.proofs.headers.Header.clock.Goals as goal

pub returns : goal.returns
returns c = ap (λ v. v.clock) c.self.view_is
