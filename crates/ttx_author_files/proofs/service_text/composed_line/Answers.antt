use Rattle.std.proofs.Common.{rules, append_assoc}
use Rattle.ttx_author_files.proofs.service_text.composed_line.Goals as goal

pub returns : goal.returns
returns c = search (rules, append_assoc)
