use Rattle.std.proofs.Common.{[], ◌∷◌, string_bytes}
use Rattle.ttx_cycle.specs.Counters.{inner_of}
use Rattle.ttx_cycle.specs.Cycles.{slots_of}
use Rattle.ttx_cycle.specs.Files.{IsPacketFile}
use Rattle.ttx_files.proofs.KnownFiles.{known}
use Rattle.ttx_files.specs.Known.{first, second}
use Rattle.ttx_files.specs.Texts.{IsServiceText}
use Rattle.ttx_tool.specs.FindDeadline.{IsAsked}
use Rattle.ttx_tool.proofs.commands.find_deadline.find_text.Goals as goal

pub returns-in-Ok-tell-clause-bytes : goal.returns-in-Ok-tell-clause-bytes
returns-in-Ok-tell-clause-bytes g c =
    let told = c.in-Ok-tell.told in
    let inputs = c.in-Ok.inputs in
    known (g.A.Read.remaining (inner_of c.args.cycle.now) ∷ g.B.Read.remaining (inner_of c.args.service.now) ∷ [])
    (λ xs. IsPacketFile (first xs) (slots_of inputs.cycle) × IsServiceText (second xs) inputs.service)
    (λ xs. IsAsked (first xs) (second xs) c.args.asked told.file.items (string_bytes told.line) told.verdict)
    (λ xs is. record { slots = slots_of inputs.cycle; service = inputs.service; cycle_is = is.0; service_is = is.1; told = c.in-Ok-tell.ensures })
    c.in-Ok.ensures.bytes
