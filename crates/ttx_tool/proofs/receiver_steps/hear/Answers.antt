use Rattle.std.proofs.Common.{ap}
use Rattle.ttx_tool.proofs.FreshUntilHeader.{fresh_run}
use Rattle.ttx_tool.proofs.receiver_steps.hear.Goals as goal

pub returns-clause-fresh : goal.returns-clause-fresh
returns-clause-fresh g c = fresh_run _ _ _ _ _ _ c.step_over.ensures.heard

pub returns-clause-same : goal.returns-clause-same
returns-clause-same g c = ap g.X.Receiver.held c.step_over.ensures.value
