-- The laws of the certificates of the program.
--
--   CertificatesKeepTheirRules      each is in the ranges and orders of certificates
--   AcceptedTextsAreWritten         a text that is read is the one text of its certificate
--   WrittenTextsAreRead             the text of a certificate is read as the certificate
use Rattle.std.specs.Prelude.{◌≡◌, ℕ, List, Ok}
use Rattle.ttx_certificate.specs.NamedStarts.{IsCertificate}
use Rattle.ttx_certificate.specs.Entries.{CertificateFields, IsCertificateFields}
use Rattle.ttx_certificate.specs.Certificates.{fields_of, certificate_of}
use Rattle.ttx_certificate.specs.CertificateTexts.{certificate_text}
use Rattle.ttx_certificate.specs.CertificateReading.{read_text}
use Rattle.ttx_certificate.specs.declared.certificates.Certificate.{Certificate}

abbrev pub CertificatesKeepTheirRules : Type 0
CertificatesKeepTheirRules = (w : Certificate) → IsCertificateFields (fields_of w) × IsCertificate (certificate_of w)

abbrev pub AcceptedTextsAreWritten : Type 0
AcceptedTextsAreWritten = (bytes : List ℕ) (w : CertificateFields) → read_text bytes ≡ Ok w → bytes ≡ certificate_text w

abbrev pub WrittenTextsAreRead : Type 0
WrittenTextsAreRead = (w : CertificateFields) → IsCertificateFields w → read_text (certificate_text w) ≡ Ok w
