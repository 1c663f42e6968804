use Rattle.std.proofs.Common.{map, ◌≡◌, ◌∙◌}
use Rattle.std.specs.Prelude.{⊤, Err}
use Rattle.ttx_certificate.specs.Certificates.{fields_of}
use Rattle.ttx_cycle.specs.Counters.{inner_of}
use Rattle.ttx_cycle.specs.Cycles.{slots_of}
use Rattle.ttx_cycle.specs.Files.{IsPacketFile}
use Rattle.ttx_files.specs.Texts.{IsCertificateText}
use Rattle.ttx_report.specs.Files.{marks_view, marks_of}
use Rattle.ttx_source.specs.PromiseViews.{promise_view}
use Rattle.ttx_tool.specs.Promised.{IsPromisedText, IsNoPromisedText}
use Rattle.ttx_tool.specs.Report.{IsNoFiling, ReadsSealed}
use Rattle.ttx_tool.proofs.ReportInputs.{of_three, nothing_of, no_service, no_certificate, marked}
use Rattle.ttx_tool.proofs.commands.report.read_filed.Goals as goal

pub returns-in-Err-read_defined-clause-bytes : goal.returns-in-Err-read_defined-clause-bytes
returns-in-Err-read_defined-clause-bytes g c =
    let slots = slots_of c.in-Ok.cycle in
    let f = c.in-Err-read_defined.fault in
    of_three (λ x. IsPacketFile x slots) (λ y. IsNoPromisedText y f) (λ z. ⊤) (λ x y z. IsNoFiling x y z f)
    (g.A.Read.remaining (inner_of c.args.cycle.now)) (g.B.Read.remaining (inner_of c.args.service.now))
    (g.C.Read.remaining (inner_of c.args.certificate.now)) (λ x y z is none _. no_service x y z slots is f none)
    c.in-Ok.ensures.bytes c.in-Err-read_defined.ensures.bytes (nothing_of (g.C.Read.remaining (inner_of c.args.certificate.now)))

pub returns-in-Ok-read_sealed-clause-bytes : goal.returns-in-Ok-read_sealed-clause-bytes
returns-in-Ok-read_sealed-clause-bytes g c =
    let slots = slots_of c.in-Ok.cycle in
    let d = c.in-Ok-read_defined.defined in
    let promises = map promise_view d.promised.promises.items in
    let s = c.in-Ok-read_sealed.sealed in
    of_three (λ x. IsPacketFile x slots) (λ y. IsPromisedText y d.promised.service promises × (d.text.items ≡ y))
    (λ z. IsCertificateText z (fields_of s.certificate) × (s.text.items ≡ z))
    (λ x y z. IsPacketFile x slots × IsPromisedText y d.promised.service promises × IsCertificateText z (fields_of s.certificate)
    × (marks_view c.marks_of-marks.result ≡ marks_of x y z))
    (g.A.Read.remaining (inner_of c.args.cycle.now)) (g.B.Read.remaining (inner_of c.args.service.now))
    (g.C.Read.remaining (inner_of c.args.certificate.now))
    (λ x y z is says seals. (
      is,
      says.0,
      seals.0,
      marked x y z c.as_slice.result.now c.as_slice-in-Ok-read_sealed.result.now slots is (c.as_slice.ensures.value ∙ says.1)
          (c.as_slice-in-Ok-read_sealed.ensures.value ∙ seals.1) (marks_view c.marks_of-marks.result) c.marks_of-marks.ensures,
    ))
    c.in-Ok.ensures.bytes c.in-Ok-read_defined.ensures.bytes c.in-Ok-read_sealed.ensures.bytes

pub returns-in-Err-read_sealed-clause-bytes : goal.returns-in-Err-read_sealed-clause-bytes
returns-in-Err-read_sealed-clause-bytes g c =
    let slots = slots_of c.in-Ok.cycle in
    let d = c.in-Ok-read_defined.defined in
    let promises = map promise_view d.promised.promises.items in
    let f = c.in-Err-read_sealed.fault in
    of_three (λ x. IsPacketFile x slots) (λ y. IsPromisedText y d.promised.service promises × (d.text.items ≡ y)) (λ z. ReadsSealed z (Err f))
    (λ x y z. IsNoFiling x y z f) (g.A.Read.remaining (inner_of c.args.cycle.now)) (g.B.Read.remaining (inner_of c.args.service.now))
    (g.C.Read.remaining (inner_of c.args.certificate.now))
    (λ x y z is says none. no_certificate x y z slots d.promised.service promises is says.0 f none)
    c.in-Ok.ensures.bytes c.in-Ok-read_defined.ensures.bytes c.in-Err-read_sealed.ensures.bytes
