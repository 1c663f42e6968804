use Rattle.std.proofs.Common.{refl}
use Rattle.ttx_certificate.proofs.certificates.Certificate.of.Goals as goal

pub invariant_of-result : goal.invariant_of-result
invariant_of-result c = record { numbers = c.requires.numbers; rising = c.requires.rising }

pub returns : goal.returns
returns c = refl
