use Rattle.ttx_certificate.proofs.entries.Entry.place.Goals as goal

pub returns : goal.returns
returns c = c.args.self.now.placed
