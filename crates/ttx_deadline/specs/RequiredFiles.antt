-- The verdict on a packet file, a service definition and a certificate, with a deadline that is required.
--
--   IsJudgedRequired        the verdict on what was read, with its line
--   IsJudgedLateRequired    the same for receivers that show pages late
use Rattle.std.specs.Prelude.{◌≡◌, ℕ, List, length, Option}
use Rattle.ttx_source.specs.Services.{ServiceFields}
use Rattle.ttx_certificate.specs.Entries.{CertificateFields}
use Rattle.ttx_deadline.specs.Requirements.{IsRequiredVerdict, MeansRequired}
use Rattle.ttx_deadline.specs.LateRequirements.{IsLateRequiredVerdict, MeansLateRequired}
use Rattle.ttx_deadline.specs.RequiredLines.{required_line, late_required_line}
use Rattle.ttx_deadline.specs.declared.requirements.RequiredVerdict.{RequiredVerdict}
use Rattle.ttx_deadline.specs.declared.requirements.LateRequiredVerdict.{LateRequiredVerdict}

pub record IsJudgedRequired (slots : List (List ℕ)) (service : ServiceFields) (w : CertificateFields) (required : Option ℕ)
    (verdict : RequiredVerdict) (line : List ℕ) : Type 0 where
  pub exact : IsRequiredVerdict slots service w required verdict
  pub means : MeansRequired slots service w required verdict
  pub line_is : line ≡ required_line w (length service.pages) verdict

pub record IsJudgedLateRequired (slots : List (List ℕ)) (service : ServiceFields) (w : CertificateFields) (fields : ℕ)
    (verdict : LateRequiredVerdict) (line : List ℕ) : Type 0 where
  pub exact : IsLateRequiredVerdict slots service w fields verdict
  pub means : MeansLateRequired slots service w fields verdict
  pub line_is : line ≡ late_required_line w (length service.pages) verdict
