use Rattle.std.proofs.Common.{◌∙◌}
use Rattle.ttx_arguments.proofs.Building.{named}
use Rattle.ttx_arguments.proofs.command_line.command_of.Goals as goal

pub returns : goal.returns
returns c = c.named.ensures ∙ named c.args.name.now _ c.as_slice.ensures
