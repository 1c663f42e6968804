use Rattle.std.proofs.Common.{rules, append_assoc}
use Rattle.ttx_author_files.proofs.author_text.decomposed_line.Goals as goal

pub returns : goal.returns
returns c = search (rules, append_assoc)
