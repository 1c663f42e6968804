use Rattle.std.proofs.Common.{refl}
use Rattle.ttx_tool.proofs.commands.refute.tell_counter.Goals as goal

pub returns-clause-status : goal.returns-clause-status
returns-clause-status c = refl
