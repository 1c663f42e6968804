use Rattle.std.proofs.Common.{refl}
use Rattle.ttx_certificate.proofs.certificates.Certificate.deadline.Goals as goal

pub returns : goal.returns
returns c = refl
