use Rattle.std.proofs.Common.{ap, ◌∙◌}
use Rattle.ttx_receiver.specs.Tuning.{Tuned}
use Rattle.ttx_receiver.proofs.careful.CarefulReceiver.selection.Goals as goal

pub returns : goal.returns
returns c = c.selection.ensures ∙ ap (λ (t : Tuned). t.selection) c.self.view_is
