use Rattle.ttx_witness.proofs.lemmas.faults.SentBytes.{parity_is}
use Rattle.ttx_witness.proofs.faults.wrong_slots.sent_as.Goals as goal

pub returns : goal.returns
returns c = parity_is c.args.character c.requires
