use Rattle.ttx_proof.proofs.ShiftedTransmissions.{shift_is}
use Rattle.ttx_proof.proofs.joined_items.shift.Goals as goal

pub returns : goal.returns
returns c = shift_is c.args.t c.args.by c.requires.small c.requires.low c.requires.high
