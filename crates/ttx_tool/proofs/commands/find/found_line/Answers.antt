use Rattle.std.proofs.Common.{rules}
use Rattle.ttx_tool.proofs.commands.find.found_line.Goals as goal

pub returns : goal.returns
returns c = search rules
