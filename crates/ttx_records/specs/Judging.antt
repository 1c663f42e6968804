-- The verdicts on a cycle, the pages of a service and a certificate, each with its JSON objects.
--
--   IsRecorded, IsAllRecorded       for receivers that show pages at once; with the first reason of each page
--   IsLateRecorded          for those that show pages late
--   IsRequiredRecorded      with a deadline that is required
--   IsNumbersRecorded       for viewers who key page numbers alone
use Rattle.std.specs.Prelude.{◌≡◌, ℕ, List, length, Option}
use Rattle.ttx_source.specs.Services.{ServiceFields, pages_of}
use Rattle.ttx_certificate.specs.Entries.{CertificateFields, certificate_at}
use Rattle.ttx_certify.specs.AllReasons.{AreReasons}
use Rattle.ttx_certify.specs.declared.all_reasons.PageReason.{PageReason}
use Rattle.ttx_certify.specs.Verdicts.{IsVerdict, Means}
use Rattle.ttx_certify.specs.declared.verdict.Verdict.{Verdict}
use Rattle.ttx_late.specs.LateVerdicts.{IsLateVerdict, MeansLate}
use Rattle.ttx_late.specs.declared.verdict.LateVerdict.{LateVerdict}
use Rattle.ttx_deadline.specs.Requirements.{IsRequiredVerdict, MeansRequired}
use Rattle.ttx_deadline.specs.declared.requirements.RequiredVerdict.{RequiredVerdict}
use Rattle.ttx_page.specs.Streams.{repeated}
use Rattle.ttx_subpages.specs.NumberReports.{AreReports}
use Rattle.ttx_subpages.specs.NumbersVerdicts.{IsNumbersVerdict, MeansNumbers}
use Rattle.ttx_subpages.specs.declared.reports.NumberReport.{NumberReport}
use Rattle.ttx_subpages.specs.declared.verdict.NumbersVerdict.{NumbersVerdict}
use Rattle.ttx_records.specs.NumberRecords.{numbers_record}
use Rattle.ttx_records.specs.Verdicts.{verdict_record, all_records}
use Rattle.ttx_records.specs.LateVerdicts.{late_record}
use Rattle.ttx_records.specs.Requirements.{required_record}

pub record IsRecorded (slots : List (List ℕ)) (service : ServiceFields) (w : CertificateFields) (verdict : Verdict) (text : List ℕ) : Type 0 where
  pub exact : IsVerdict slots (pages_of service) (certificate_at w) verdict
  pub seen : Means slots (pages_of service) (certificate_at w) verdict
  pub text_is : text ≡ verdict_record w (length service.pages) verdict

pub record IsAllRecorded (slots : List (List ℕ)) (service : ServiceFields) (w : CertificateFields) (verdict : Verdict) (text : List ℕ) : Type 0 where
  pub exact : IsVerdict slots (pages_of service) (certificate_at w) verdict
  pub seen : Means slots (pages_of service) (certificate_at w) verdict
  pub told : List PageReason
  pub reasons : AreReasons slots (pages_of service) (certificate_at w) told
  pub text_is : text ≡ all_records w verdict told

pub record IsLateRecorded (slots : List (List ℕ)) (service : ServiceFields) (w : CertificateFields) (verdict : LateVerdict) (text : List ℕ)
    : Type 0 where
  pub exact : IsLateVerdict slots (pages_of service) (certificate_at w) verdict
  pub seen : MeansLate slots (pages_of service) (certificate_at w) verdict
  pub text_is : text ≡ late_record w (length service.pages) verdict

pub record IsRequiredRecorded (slots : List (List ℕ)) (service : ServiceFields) (w : CertificateFields) (required : Option ℕ)
    (verdict : RequiredVerdict) (text : List ℕ) : Type 0 where
  pub exact : IsRequiredVerdict slots service w required verdict
  pub means : MeansRequired slots service w required verdict
  pub text_is : text ≡ required_record w (length service.pages) verdict

pub record IsNumbersRecorded (slots : List (List ℕ)) (service : ServiceFields) (w : CertificateFields) (verdict : NumbersVerdict) (text : List ℕ)
    : Type 0 where
  pub exact : IsNumbersVerdict slots (pages_of service) (certificate_at w) verdict
  pub seen : MeansNumbers slots (pages_of service) (certificate_at w) verdict
  pub reports : List NumberReport
  pub are : AreReports (repeated slots) (pages_of service) reports
  pub text_is : text ≡ numbers_record w (length service.pages) reports verdict
