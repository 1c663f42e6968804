-- Laws of the kinds.
--
--   CertificatesAreRecognised       a text that is read as a certificate has the kind of certificates
use Rattle.std.specs.Prelude.{◌≡◌, ℕ, List, Some, Ok}
use Rattle.ttx_certificate.specs.Entries.{CertificateFields}
use Rattle.ttx_certificate.specs.CertificateReading.{read_text}
use Rattle.ttx_kinds.specs.Kinds.{kind_of}
use Rattle.ttx_kinds.specs.declared.kinds.Kind.TheVariants.{Certificate}

abbrev pub CertificatesAreRecognised : Type 0
CertificatesAreRecognised = (bytes : List ℕ) (w : CertificateFields) → read_text bytes ≡ Ok w → kind_of bytes ≡ Some Certificate
