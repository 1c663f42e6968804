use Rattle.std.proofs.Common.{◌≡◌, ◌∙◌, Ok, subst, sym}
use Rattle.std.proofs.lemmas.Option.{IfSome_then}
use Rattle.ttx_certificate.specs.CertificateReading.{read_text}
use Rattle.ttx_certificate.specs.Certificates.{fields_of}
use Rattle.ttx_cycle.specs.Counters.{inner_of}
use Rattle.ttx_tool.proofs.commands.report.read_sealed.Goals as goal

pub returns-in-Ok-read_certificate-clause-faults : goal.returns-in-Ok-read_certificate-clause-faults
returns-in-Ok-read_certificate-clause-faults g c =
    let w = fields_of c.in-Ok-read_certificate.certificate in (
      (c.in-Ok.ensures.faults, tt),
      (
        IfSome_then (g.R.Read.remaining (inner_of c.args.reader.now)) c.in-Ok.ensures.bytes
            (λ bytes read. (
              w,
              record {
                most = read.1;
                says = subst (λ xs. read_text xs ≡ Ok w) (c.as_slice.ensures.value ∙ read.0) (sym c.in-Ok-read_certificate.ensures);
              },
            )),
        tt,
      ),
    )
