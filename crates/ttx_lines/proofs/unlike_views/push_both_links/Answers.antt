use Rattle.std.proofs.Common.{rules, append_assoc}
use Rattle.ttx_lines.proofs.unlike_views.push_both_links.Goals as goal

pub returns : goal.returns
returns c = search (rules, append_assoc)
