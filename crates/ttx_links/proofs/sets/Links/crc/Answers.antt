use Rattle.std.proofs.Common.{ap}
use Rattle.ttx_links.proofs.sets.Links.crc.Goals as goal

pub returns : goal.returns
returns c = ap (λ v. v.crc) c.self.view_is
