use Rattle.std.proofs.Common.{rules, append_assoc}
use Rattle.ttx_partial.specs.Lines.{pages_line}
use Rattle.ttx_partial.proofs.partial_lines.push_pages.Goals as goal

pub returns : goal.returns
unfolding pages_line
returns c = search (rules, append_assoc)
