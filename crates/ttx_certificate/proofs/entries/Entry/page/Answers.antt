use Rattle.std.proofs.Common.{refl}
use Rattle.ttx_certificate.proofs.entries.Entry.page.Goals as goal

pub returns : goal.returns
returns c = refl
