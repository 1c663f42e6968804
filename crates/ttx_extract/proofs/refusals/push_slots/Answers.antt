use Rattle.std.proofs.Common.{rules, append_assoc}
use Rattle.ttx_extract.proofs.refusals.push_slots.Goals as goal

pub returns : goal.returns
returns c = search (rules, append_assoc)
