use Rattle.std.proofs.Common.{ap, ◌∙◌}
use Rattle.ttx_page.specs.Packets.{packet_of}
use Rattle.ttx_page.specs.Receivers.{has_choice}
use Rattle.ttx_page.specs.declared.class.Class.TheVariants.{Any}
use Rattle.ttx_receiver.specs.Tuning.{Tuned}
use Rattle.ttx_receiver.proofs.tuned.Tuned.chooses.Goals as goal

pub returns : goal.returns
returns c =
    c.chooses.ensures ∙ ap (λ (t : Tuned). has_choice Any t.lines t.selection t.memory (packet_of c.args.slot.now)) c.self.view_is
