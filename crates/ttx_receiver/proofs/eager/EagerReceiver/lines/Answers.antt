use Rattle.std.proofs.Common.{ap, ◌∙◌}
use Rattle.ttx_receiver.specs.Tuning.{Tuned}
use Rattle.ttx_receiver.proofs.eager.EagerReceiver.lines.Goals as goal

pub returns : goal.returns
returns c = c.lines.ensures ∙ ap (λ (t : Tuned). t.lines) c.self.view_is
