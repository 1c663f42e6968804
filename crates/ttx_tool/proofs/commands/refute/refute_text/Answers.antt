use Rattle.std.proofs.Common.{[], ◌∷◌, string_bytes}
use Rattle.ttx_cycle.specs.Counters.{inner_of}
use Rattle.ttx_cycle.specs.Cycles.{slots_of}
use Rattle.ttx_cycle.specs.Files.{IsPacketFile}
use Rattle.ttx_files.proofs.KnownFiles.{known}
use Rattle.ttx_files.specs.Known.{first, second, third}
use Rattle.ttx_files.specs.Texts.{IsServiceText, IsCertificateText}
use Rattle.ttx_certificate.specs.Certificates.{fields_of}
use Rattle.ttx_tool.specs.Refute.{IsRefutingFiles}
use Rattle.ttx_tool.proofs.commands.refute.refute_text.Goals as goal

pub returns-in-Ok-tell-clause-bytes : goal.returns-in-Ok-tell-clause-bytes
returns-in-Ok-tell-clause-bytes g c =
    let told = c.in-Ok-tell.told in
    let inputs = c.in-Ok.inputs in
    let w = fields_of inputs.certificate in
    known (g.A.Read.remaining (inner_of c.args.cycle.now) ∷ g.B.Read.remaining (inner_of c.args.service.now)
    ∷ g.C.Read.remaining (inner_of c.args.certificate.now) ∷ [])
    (λ xs. IsPacketFile (first xs) (slots_of inputs.cycle) × IsServiceText (second xs) inputs.service × IsCertificateText (third xs) w)
    (λ xs. IsRefutingFiles (first xs) (second xs) (third xs) c.args.asked told.file.items (string_bytes told.line) told.verdict)
    (λ xs is. record {
      slots = slots_of inputs.cycle;
      service = inputs.service;
      w = w;
      cycle_is = is.0;
      service_is = is.1;
      certificate_is = is.2;
      told = c.in-Ok-tell.ensures.told;
    }) c.in-Ok.ensures.bytes
