use Rattle.std.proofs.Common.{sym, ap}
use Rattle.ttx_tool.specs.Wait.{wait_status}
use Rattle.ttx_tool.proofs.commands.wait.wait_status.Goals as goal

pub returns-in-Some : goal.returns-in-Some
returns-in-Some c = ap (λ deadline. wait_status deadline) (sym c.in-Some.is)

pub returns-in-None : goal.returns-in-None
returns-in-None c = ap (λ deadline. wait_status deadline) (sym c.in-None.is)
