use Rattle.std.proofs.Common.{map, ◌≡◌, string_bytes}
use Rattle.std.specs.Prelude.{option_map}
use Rattle.ttx_certificate.specs.Certificates.{fields_of}
use Rattle.ttx_cycle.specs.Counters.{inner_of}
use Rattle.ttx_cycle.specs.Cycles.{slots_of}
use Rattle.ttx_cycle.specs.Files.{IsPacketFile}
use Rattle.ttx_files.specs.Texts.{IsCertificateText}
use Rattle.ttx_report.specs.Files.{marks_view, marks_of}
use Rattle.ttx_source.specs.PromiseViews.{promise_view}
use Rattle.ttx_tool.specs.Promised.{IsPromisedText}
use Rattle.ttx_tool.specs.Report.{IsReporting}
use Rattle.ttx_tool.proofs.ReportInputs.{then_three, reporting}
use Rattle.ttx_tool.proofs.commands.report.report_text.Goals as goal

pub returns-in-Ok-tell-clause-bytes : goal.returns-in-Ok-tell-clause-bytes
returns-in-Ok-tell-clause-bytes g c =
    let f = c.in-Ok.filed in
    let slots = slots_of f.cycle in
    let promises = map promise_view f.promised.promises.items in
    let w = fields_of f.certificate in
    let date = option_map (λ d. d.now) c.args.date in
    let told = c.in-Ok-tell.told in
    then_three
    (λ x y z. IsPacketFile x slots × IsPromisedText y f.promised.service promises × IsCertificateText z w × (marks_view f.marks ≡ marks_of x y z))
    (λ x y z. IsReporting x y z date (string_bytes told.line) told.verdict)
    (g.A.Read.remaining (inner_of c.args.cycle.now)) (g.B.Read.remaining (inner_of c.args.service.now))
    (g.C.Read.remaining (inner_of c.args.certificate.now))
    (λ x y z h. reporting slots f.promised.service promises w (marks_view f.marks) date (string_bytes told.line) told.verdict c.in-Ok-tell.ensures
    x y z h.0 h.1 h.2 h.3)
    c.in-Ok.ensures.bytes
