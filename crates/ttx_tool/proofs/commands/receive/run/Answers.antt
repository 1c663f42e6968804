use Rattle.std.proofs.Common.{◌∙◌, ℕ, ap, IfSome}
use Rattle.ttx_arguments.specs.declared.orders.ReceiverKind.TheVariants.{Eager, Careful, Cleared}
use Rattle.ttx_cycle.specs.Counters.{inner_of}
use Rattle.ttx_page.specs.Views.{memory_of}
use Rattle.ttx_receiver.specs.Tuning.{tuned_at}
use Rattle.ttx_tool.proofs.AskedReceivers.{asked_for}
use Rattle.ttx_tool.specs.Receive.{Receives}
use Rattle.ttx_tool.proofs.commands.receive.run.Goals as goal

pub returns-in-Eager-clause-bytes : goal.returns-in-Eager-clause-bytes
returns-in-Eager-clause-bytes g c =
    asked_for c.args.tuning.now (λ t holds held. IfSome (g.R.Read.remaining (inner_of c.args.reader.now))
    (λ bytes. Receives t holds c.args.tuning.now.start c.args.tuning.now.slots bytes held
    (g.W.Write.contents (inner_of c.args.writer.now)) (g.W.Write.contents (inner_of c.receive_by.new.writer)) c.receive_by.result))
    Eager c.in-Eager.is _ c.blank-blank.ensures c.new-receiver.result
    (c.new-receiver.ensures ∙ ap (λ (n : ℕ). tuned_at c.args.tuning.now.selection n (memory_of c.blank-blank.result)) c.count-lines.ensures.value)
    c.receive_by.ensures.bytes

pub returns-in-Careful-clause-bytes : goal.returns-in-Careful-clause-bytes
returns-in-Careful-clause-bytes g c =
    asked_for c.args.tuning.now (λ t holds held. IfSome (g.R.Read.remaining (inner_of c.args.reader.now))
    (λ bytes. Receives t holds c.args.tuning.now.start c.args.tuning.now.slots bytes held
    (g.W.Write.contents (inner_of c.args.writer.now)) (g.W.Write.contents (inner_of c.receive_by-in-Careful.new.writer)) c.receive_by-in-Careful.result))
    Careful c.in-Careful.is _ c.blank-blank.ensures c.new-receiver-in-Careful.result
    (c.new-receiver-in-Careful.ensures ∙ ap (λ (n : ℕ). tuned_at c.args.tuning.now.selection n (memory_of c.blank-blank.result)) c.count-lines.ensures.value)
    c.receive_by-in-Careful.ensures.bytes

pub returns-in-Cleared-clause-bytes : goal.returns-in-Cleared-clause-bytes
returns-in-Cleared-clause-bytes g c =
    asked_for c.args.tuning.now (λ t holds held. IfSome (g.R.Read.remaining (inner_of c.args.reader.now))
    (λ bytes. Receives t holds c.args.tuning.now.start c.args.tuning.now.slots bytes held
    (g.W.Write.contents (inner_of c.args.writer.now)) (g.W.Write.contents (inner_of c.receive_by-in-Cleared.new.writer)) c.receive_by-in-Cleared.result))
    Cleared c.in-Cleared.is _ c.blank-blank.ensures c.new-receiver-in-Cleared.result
    (c.new-receiver-in-Cleared.ensures ∙ ap (λ (n : ℕ). tuned_at c.args.tuning.now.selection n (memory_of c.blank-blank.result)) c.count-lines.ensures.value)
    c.receive_by-in-Cleared.ensures.bytes
