use Rattle.std.proofs.Common.{rules, append_assoc}
use Rattle.ttx_partial.proofs.partial_lines.push_slots.Goals as goal

pub returns : goal.returns
returns c = search (rules, append_assoc)
