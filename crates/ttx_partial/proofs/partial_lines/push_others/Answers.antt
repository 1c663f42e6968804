use Rattle.std.proofs.Common.{rules, append_assoc}
use Rattle.ttx_partial.specs.Lines.{others_line}
use Rattle.ttx_partial.proofs.partial_lines.push_others.Goals as goal

pub returns : goal.returns
unfolding others_line
returns c = search (rules, append_assoc)
