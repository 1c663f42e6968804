use Rattle.std.proofs.Common.{refl}
use Rattle.ttx_tool.proofs.commands.replay.tell_none.Goals as goal

pub returns-in-Ok-clause-status : goal.returns-in-Ok-clause-status
returns-in-Ok-clause-status c = refl
