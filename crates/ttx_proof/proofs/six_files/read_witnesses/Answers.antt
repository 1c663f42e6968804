use Rattle.std.proofs.Common.{inr}
use Rattle.ttx_certificate.specs.Certificates.{fields_of}
use Rattle.ttx_proof.proofs.six_files.read_witnesses.Goals as goal

pub returns-in-Err-clause-bytes : goal.returns-in-Err-clause-bytes
returns-in-Err-clause-bytes g c = inr ((fields_of c.in_ok-old.old, c.in_ok-old.ensures.bytes), c.in-Err.ensures.bytes)
