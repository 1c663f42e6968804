use Rattle.ttx_arguments.proofs.Building.{whole}
use Rattle.ttx_arguments.proofs.grammar.ttx.Goals as goal

pub returns : goal.returns
returns c = whole c.args.names _ c.with_commands.result c.as_slice.ensures c.with_commands.ensures
