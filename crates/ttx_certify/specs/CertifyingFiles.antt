-- What is returned and written when a packet file, a service definition and a certificate are certified.
--
--   IsServiceText, IsCertificateText, IsServiceFault, IsCertificateFault    what the two texts are, and why a text is refused (ttx_files)
--   IsRefused               why inputs are refused (ttx_files)
--   IsUntouched, is_write   after any fault except a failed write the writer is unchanged, whether or not its contents are known (ttx_files)
--   IsJudged                the verdict on the inputs that were read, with its line
--   Certifies               the verdict on three inputs, and its line
--   CertifiesFiles          what has been written, for each answer
use Rattle.std.specs.Prelude.{◌≡◌, ℕ, List, length, Option, Result}
use Rattle.ttx_source.specs.Services.{ServiceFields, pages_of}
use Rattle.ttx_certificate.specs.Entries.{CertificateFields, certificate_at}
use Rattle.ttx_files.specs.Judging as files
use Rattle.ttx_files.specs.declared.faults.FilesFault.{FilesFault}
use Rattle.ttx_certify.specs.Verdicts.{IsVerdict, Means}
use Rattle.ttx_certify.specs.VerdictLines.{verdict_line}
use Rattle.ttx_certify.specs.declared.verdict.Verdict.{Verdict}
pub use Rattle.ttx_files.specs.Answers.{IsUntouched, is_write}
pub use Rattle.ttx_files.specs.Inputs.{IsRefused}
pub use Rattle.ttx_files.specs.Texts.{IsServiceText, IsCertificateText, IsServiceFault, IsCertificateFault}

-- the verdict on a cycle, the pages of a service and a certificate, and its line
pub record IsJudged (slots : List (List ℕ)) (service : ServiceFields) (w : CertificateFields) (verdict : Verdict) (line : List ℕ) : Type 0 where
  pub exact : IsVerdict slots (pages_of service) (certificate_at w) verdict
  pub seen : Means slots (pages_of service) (certificate_at w) verdict
  pub line_is : line ≡ verdict_line w (length service.pages) verdict

-- the verdict on the slots of the packet file, the pages of the service and the certificate, and its line
abbrev pub Certifies : List ℕ → List ℕ → List ℕ → Verdict → List ℕ → Type 0
Certifies = files.IsJudged IsJudged

-- Ok: the line of the verdict went out. A write fault: its first `written` bytes. Otherwise nothing, and why the inputs are refused.
abbrev pub CertifiesFiles : List ℕ → List ℕ → List ℕ → Option (List ℕ) → Option (List ℕ) → Result Verdict FilesFault → Type 0
CertifiesFiles = files.AnswersFiles IsJudged
