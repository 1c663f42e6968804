use Rattle.std.proofs.Common.{◌≡◌, ◌∙◌, true, if◌then◌else◌, Err, codes, bytes_eq, ap, sym, subst}
use Rattle.ttx_page.specs.declared.class.Class.TheVariants.{Clearing}
use Rattle.ttx_certificate.specs.declared.certificate_faults.CertFault.TheVariants.{Line}
use Rattle.ttx_certificate.specs.Certificates.{fields_of}
use Rattle.ttx_certificate.specs.CertificateReading.{lines_in, read_numbers, read_clearing, read_class, ◌>>=◌}
use Rattle.ttx_certificate.specs.ReadingAnswers.{outcome, IsUnlessMemory}
use Rattle.ttx_certificate.proofs.reader.clearing.Goals as goal

pub returns : goal.returns
returns c =
    let is : bytes_eq c.in_ok-class.class.now (codes "class clearing") ≡ true =
    sym c.is_clearing.ensures ∙ c.if-not-is_clearing.false in
    let rest = lines_in c.in_ok-class.rest.now in
    let text : read_numbers Clearing 3 rest ≡ read_class (lines_in c.args.text.now) =
    sym (ap (λ b. if b then read_numbers Clearing 3 rest else Err (Line 2)) is) ∙ ap (λ line. line >>= read_clearing) c.in_ok-class.ensures.value in
    subst (λ read. IsUnlessMemory c.numbers.result (outcome fields_of c.numbers.result ≡ read)) text c.numbers.ensures
