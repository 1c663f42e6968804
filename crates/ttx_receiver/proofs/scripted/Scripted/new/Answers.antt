use Rattle.std.proofs.Common.{ap}
use Rattle.ttx_receiver.specs.Tuning.{script_at}
use Rattle.ttx_receiver.proofs.scripted.Scripted.new.Goals as goal

pub returns : goal.returns
returns c = ap (λ t. script_at t c.args.choices.now) c.new.ensures
