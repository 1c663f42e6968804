use Rattle.std.proofs.Common.{rules, append_assoc}
use Rattle.ttx_reasons.proofs.explanation.entry_text.Goals as goal

pub returns : goal.returns
returns c = search (rules, append_assoc)
