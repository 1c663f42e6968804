use Rattle.ttx_certificate.proofs.entries.Entry.starts.Goals as goal

pub returns : goal.returns
returns c = c.as_slice.ensures
