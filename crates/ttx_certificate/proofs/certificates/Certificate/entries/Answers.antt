use Rattle.std.proofs.Common.{ap}
use Rattle.ttx_certificate.specs.EntryViews.{entries_of}
use Rattle.ttx_certificate.proofs.certificates.Certificate.entries.Goals as goal

pub returns : goal.returns
returns c = ap entries_of c.as_slice.ensures.value
