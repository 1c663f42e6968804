use Rattle.std.proofs.Common.{string_bytes}
use Rattle.std.specs.Prelude.{fold}
use Rattle.std.proofs.lemmas.Option.{IfSome_then}
use Rattle.ttx_cycle.specs.Counters.{inner_of}
use Rattle.ttx_page.specs.Views.{memory_of}
use Rattle.ttx_tool.proofs.ShownFile.{shows_of, shows_nothing, heard_fault}
use Rattle.ttx_tool.specs.Receive.{tuned_as}
use Rattle.ttx_tool.proofs.commands.show.show_by.Goals as goal

pub returns-in-Ok-clause-bytes : goal.returns-in-Ok-clause-bytes
returns-in-Ok-clause-bytes g c =
    shows_of (tuned_as (g.X.Receiver.kind c.args.receiver) (g.X.Receiver.field c.args.receiver) (g.X.Receiver.tuned c.args.receiver))
    (λ sent. g.X.Receiver.held (fold g.X.Receiver.next c.args.receiver sent))
    c.args.tuning.now.start c.args.tuning.now.slots c.args.look.now (g.X.Receiver.held c.args.receiver)
    (g.X.Receiver.held c.hear_file.new.receiver) (g.W.Write.contents (inner_of c.args.writer.now)) _
    (g.R.Read.remaining (inner_of c.args.reader.now)) c.in_default.ensures.bytes
    (memory_of c.memory-memory.result.now) c.memory-memory.ensures _ (string_bytes c.in-Ok.text) c.as_str.ensures.value c.in-Ok.ensures
    _ c.shown_status.ensures _ c.write_text.ensures.bytes

pub returns-clause-bytes : goal.returns-clause-bytes
returns-clause-bytes g c =
    shows_nothing (tuned_as (g.X.Receiver.kind c.args.receiver) (g.X.Receiver.field c.args.receiver) (g.X.Receiver.tuned c.args.receiver))
    (λ sent. g.X.Receiver.held (fold g.X.Receiver.next c.args.receiver sent))
    c.args.tuning.now.start c.args.tuning.now.slots c.args.look.now (g.X.Receiver.held c.args.receiver)
    (g.X.Receiver.held c.args.receiver) (g.W.Write.contents (inner_of c.args.writer.now)) (g.R.Read.remaining (inner_of c.args.reader.now))

pub returns-in-Err-clause-bytes : goal.returns-in-Err-clause-bytes
returns-in-Err-clause-bytes g c =
    IfSome_then (g.R.Read.remaining (inner_of c.args.reader.now)) c.in-Err.ensures.bytes
    (heard_fault (tuned_as (g.X.Receiver.kind c.args.receiver) (g.X.Receiver.field c.args.receiver) (g.X.Receiver.tuned c.args.receiver))
    (λ sent. g.X.Receiver.held (fold g.X.Receiver.next c.args.receiver sent))
    c.args.tuning.now.start c.args.tuning.now.slots c.args.look.now (g.X.Receiver.held c.args.receiver)
    (g.X.Receiver.held c.hear_file.new.receiver) (g.W.Write.contents (inner_of c.args.writer.now)) c.in-Err.fault)
