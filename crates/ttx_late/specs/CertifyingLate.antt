-- The verdict on a packet file, a service definition and a certificate for receivers that show pages late.
--
--   CertifiesLate           the verdict on three inputs, and its line
--   IsJudgedLate            the verdict on what was read, with its line
use Rattle.std.specs.Prelude.{◌≡◌, ℕ, List, length}
use Rattle.ttx_source.specs.Services.{ServiceFields, pages_of}
use Rattle.ttx_certificate.specs.Entries.{CertificateFields, certificate_at}
use Rattle.ttx_files.specs.Judging.{IsJudged}
use Rattle.ttx_late.specs.LateVerdicts.{IsLateVerdict, MeansLate}
use Rattle.ttx_late.specs.LateVerdictLines.{late_verdict_line}
use Rattle.ttx_late.specs.declared.verdict.LateVerdict.{LateVerdict}

-- the verdict on a cycle, the pages of a service and a certificate, and its line
pub record IsJudgedLate (slots : List (List ℕ)) (service : ServiceFields) (w : CertificateFields) (verdict : LateVerdict) (line : List ℕ)
    : Type 0 where
  pub exact : IsLateVerdict slots (pages_of service) (certificate_at w) verdict
  pub seen : MeansLate slots (pages_of service) (certificate_at w) verdict
  pub line_is : line ≡ late_verdict_line w (length service.pages) verdict

-- the three inputs are a packet file, a service definition and a certificate, and this is the verdict on them
abbrev pub CertifiesLate : List ℕ → List ℕ → List ℕ → LateVerdict → List ℕ → Type 0
CertifiesLate = IsJudged IsJudgedLate
