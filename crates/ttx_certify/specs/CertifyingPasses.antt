-- What is returned and written when two readings of a packet file are certified, with a service definition and a certificate.
--
--   IsRefusedCycle  why the first faulty one of two packet files is refused
--   WalkedFiles     the verdict of a walk over two packet files
--   IsAnsweredTwice the verdict on four inputs, and its text
--   CertifiesTwice  the same with the line of the verdict
--   IsRefusedTwice  why four inputs are refused
--   WalksFiles      the verdict on two packet files, with the pages of a service and a certificate
--   JudgesPasses    the verdict on four inputs, and its text, or why they are refused
--   AnswersPasses   what has been written, for each answer
--   CertifiesPasses the same with the line of the verdict
--   PassesAreFiles  the law that two readings of one file have the verdict of the file
use Rattle.std.specs.Prelude.{◌≡◌, ◌⊎◌, ℕ, List, length, string_bytes, ⊤, Option, Result, Ok, Err}
use Rattle.ttx_cycle.specs.Files.{IsPacketFile}
use Rattle.ttx_cycle.specs.Reading.{Judged}
use Rattle.ttx_cycle.specs.declared.faults.CycleFault.{CycleFault}
use Rattle.ttx_page.specs.Pages.{Page}
use Rattle.ttx_source.specs.Services.{ServiceFields, pages_of}
use Rattle.ttx_witness.specs.Coverage.{Certificate}
use Rattle.ttx_certificate.specs.Entries.{CertificateFields, certificate_at}
use Rattle.ttx_files.specs.Answers.{WritesAnswer}
use Rattle.ttx_files.specs.Inputs.{IsRefusedText}
use Rattle.ttx_files.specs.declared.faults.FilesFault.{FilesFault}
use Rattle.ttx_files.specs.declared.faults.FilesFault.TheVariants.{Cycle, NoMemory}
use Rattle.ttx_files.specs.declared.told.Told.{Told}
use Rattle.ttx_certify.specs.CertifyingFiles.{IsServiceText, IsCertificateText, Certifies}
use Rattle.ttx_certify.specs.VerdictLines.{verdict_line}
use Rattle.ttx_certify.specs.Verdicts.{Means}
use Rattle.ttx_certify.specs.Walking.{IsWalkVerdict}
use Rattle.ttx_certify.specs.declared.verdict.Verdict.{Verdict}

-- the first of two packet files is refused, or it is accepted and the second is refused
abbrev pub IsRefusedCycle : List ℕ → List ℕ → CycleFault → Type 0
IsRefusedCycle a b fault = Judged a (Err fault) ⊎ ((x : List (List ℕ)) × IsPacketFile a x × Judged b (Err fault))

-- the verdict over two packet files
pub record WalkedFiles (a b : List ℕ) (pages : List Page) (w : Certificate) (verdict : Verdict) : Type 0 where
  pub first : List (List ℕ)
  pub second : List (List ℕ)
  pub first_is : IsPacketFile a first
  pub second_is : IsPacketFile b second
  pub exact : IsWalkVerdict first second pages w verdict
  pub seen : Means second pages w verdict

-- how a verdict is worded, by the certificate and the number of pages
abbrev pub Words : Type 0
Words = CertificateFields → ℕ → Verdict → List ℕ

-- the verdict on two packet files, the pages of the service and the certificate, and its text
pub record IsAnsweredTwice (words : Words) (a b c d : List ℕ) (verdict : Verdict) (text : List ℕ) : Type 0 where
  pub service : ServiceFields
  pub w : CertificateFields
  pub service_is : IsServiceText c service
  pub certificate_is : IsCertificateText d w
  pub walked : WalkedFiles a b (pages_of service) (certificate_at w) verdict
  pub text_is : text ≡ words w (length service.pages) verdict

abbrev pub CertifiesTwice : (a b c d : List ℕ) → Verdict → List ℕ → Type 0
CertifiesTwice = IsAnsweredTwice verdict_line

-- why the inputs are refused: one of the texts; or, if both texts are accepted, a packet file
abbrev pub IsRefusedTwice : List ℕ → List ℕ → List ℕ → List ℕ → FilesFault → Type 0
IsRefusedTwice a b c d (Cycle fault) = (service : ServiceFields) × (w : CertificateFields) × IsServiceText c service × IsCertificateText d w
    × IsRefusedCycle a b fault
IsRefusedTwice a b c d fault = IsRefusedText c d fault

abbrev pub WalksFiles : List ℕ → List ℕ → ServiceFields → CertificateFields → Result Verdict FilesFault → Type 0
WalksFiles a b service w (Ok verdict) = WalkedFiles a b (pages_of service) (certificate_at w) verdict
WalksFiles a b service w (Err (Cycle fault)) = IsRefusedCycle a b fault
WalksFiles a b service w (Err NoMemory) = ⊤
WalksFiles a b service w (Err _) = ⊥

abbrev pub JudgesPasses : Words → (a b c d : List ℕ) → Result (Told Verdict) FilesFault → Type 0
JudgesPasses words a b c d (Ok told) = IsAnsweredTwice words a b c d told.verdict (string_bytes told.line)
JudgesPasses words a b c d (Err fault) = IsRefusedTwice a b c d fault

-- Ok: the text of the verdict went out. A write fault: its first `written` bytes. Otherwise nothing, and why the inputs are refused.
abbrev pub AnswersPasses : Words → (a b c d : List ℕ) → Option (List ℕ) → Option (List ℕ) → Result Verdict FilesFault → Type 0
AnswersPasses words a b c d old new result = WritesAnswer (IsAnsweredTwice words a b c d) (IsRefusedTwice a b c d) old new result

abbrev pub CertifiesPasses : (a b c d : List ℕ) → Option (List ℕ) → Option (List ℕ) → Result Verdict FilesFault → Type 0
CertifiesPasses = AnswersPasses verdict_line

abbrev pub PassesAreFiles : Type 0
PassesAreFiles = (a c d : List ℕ) (verdict : Verdict) (line : List ℕ) → CertifiesTwice a a c d verdict line → Certifies a c d verdict line
