-- The verdict on a packet file, a service definition and a certificate for viewers who key a page number alone.
--
--   IsJudgedByNumber        the verdict on what was read, and its text
use Rattle.std.specs.Prelude.{◌≡◌, ℕ, List, length}
use Rattle.ttx_page.specs.Streams.{repeated}
use Rattle.ttx_source.specs.Services.{ServiceFields, pages_of}
use Rattle.ttx_certificate.specs.Entries.{CertificateFields, certificate_at}
use Rattle.ttx_subpages.specs.NumberReports.{AreReports, numbers_verdict_text}
use Rattle.ttx_subpages.specs.NumbersVerdicts.{IsNumbersVerdict, MeansNumbers}
use Rattle.ttx_subpages.specs.declared.reports.NumberReport.{NumberReport}
use Rattle.ttx_subpages.specs.declared.verdict.NumbersVerdict.{NumbersVerdict}

-- the verdict on a cycle, the pages of a service and a certificate, and its text, with the report on each number
pub record IsJudgedByNumber (slots : List (List ℕ)) (service : ServiceFields) (w : CertificateFields) (verdict : NumbersVerdict) (text : List ℕ)
    : Type 0 where
  pub exact : IsNumbersVerdict slots (pages_of service) (certificate_at w) verdict
  pub seen : MeansNumbers slots (pages_of service) (certificate_at w) verdict
  pub reports : List NumberReport
  pub are : AreReports (repeated slots) (pages_of service) reports
  pub text_is : text ≡ numbers_verdict_text w (length service.pages) reports verdict
