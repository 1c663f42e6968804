-- What `find` writes for a packet file and the text of a service.
--
--   found_line              the line of a deadline
--   WritesDeadline, TellsDeadline, TellsNo, TellsFound    what goes out where there is a deadline, and where there is none
--   TellsVerdict            the same, whatever the verdict
--   IsFoundAndTold, IsFinding    what is found of a cycle and a service, and of their texts, and what goes out
--   IsNoFinding, FindsText  why nothing is found; what is returned
--   FindsFiles              what was written to the certificate's file and to the output, for each answer
use Rattle.std.specs.Prelude.{◌≡◌, ℕ, ◌≤◌, List, [], ◌∷◌, ◌++◌, length, codes, string_bytes, Option, Some, None, Result, Ok, Err}
use Rattle.std.specs.Fmt.{decimal}
use Rattle.std.specs.Io.KnownBytes.{Keeps}
use Rattle.ttx_cycle.specs.Bounded.{most_bytes}
use Rattle.ttx_cycle.specs.Files.{IsPacketFile}
use Rattle.ttx_files.specs.Answers.{WritesBoth}
use Rattle.ttx_files.specs.Inputs.{IsRefusedServed}
use Rattle.ttx_files.specs.Texts.{IsServiceText}
use Rattle.ttx_files.specs.declared.faults.FilesFault.TheVariants.{Write}
use Rattle.ttx_files.specs.declared.told.Filed.{Filed}
use Rattle.ttx_certify.specs.VerdictLines.{verdict_line}
use Rattle.ttx_certify.specs.Verdicts.{IsVerdict, Means}
use Rattle.ttx_certify.specs.declared.verdict.Verdict.{Verdict}
use Rattle.ttx_certify.specs.declared.verdict.Verdict.TheVariants.{Yes, No}
use Rattle.ttx_page.specs.declared.class.Class.{Class}
use Rattle.ttx_source.specs.Services.{ServiceFields, pages_of}
use Rattle.ttx_faults.specs.declared.faults.ToolFault.{ToolFault}
use Rattle.ttx_faults.specs.declared.faults.ToolFault.TheVariants.{Files}
use Rattle.ttx_certificate.specs.CertificateTexts.{certificate_text}
use Rattle.ttx_certificate.specs.Entries.{CertificateFields, IsCertificateFields, certificate_at}
use Rattle.ttx_witness.specs.Coverage.{IsCertificate}
use Rattle.ttx_witness.specs.search.Finding.{IsFoundFor}
use Rattle.ttx_witness.specs.declared.faults.reason.Reason.{Reason}

abbrev pub found_line : ℕ → List ℕ
found_line deadline = codes "found deadline " ++ decimal deadline ++ 10 ∷ []

-- the certificate's text into the file, and the line of its deadline
abbrev pub WritesDeadline : CertificateFields → ℕ → List ℕ → List ℕ → ℕ → Type 0
WritesDeadline w deadline file line status = (file ≡ certificate_text w) × (line ≡ found_line deadline) × (status ≡ 0)

-- the same; the text is short enough to be read, and each page is seen
pub record TellsDeadline (slots : List (List ℕ)) (service : ServiceFields) (w : CertificateFields) (deadline : ℕ) (file line : List ℕ) (status : ℕ)
    : Type 0 where
  pub written : WritesDeadline w deadline file line status
  pub most : length file ≤ most_bytes
  pub seen : Means slots (pages_of service) (certificate_at w) Yes

-- a verdict on the certificate, and its line
pub record IsVerdictLine (slots : List (List ℕ)) (service : ServiceFields) (w : CertificateFields) (verdict : Verdict) (line : List ℕ) : Type 0 where
  pub exact : IsVerdict slots (pages_of service) (certificate_at w) verdict
  pub same : line ≡ verdict_line w (length service.pages) verdict

-- nothing into the file, and the no line on the certificate
abbrev pub TellsNo : List (List ℕ) → ServiceFields → CertificateFields → List ℕ → List ℕ → ℕ → Type 0
TellsNo slots service w file line status = (file ≡ []) × ((reason : Reason) × IsVerdictLine slots service w (No reason) line) × (status ≡ 1)

-- nothing into the file, and the line of the verdict on the certificate
abbrev pub TellsVerdict : List (List ℕ) → ServiceFields → CertificateFields → List ℕ → List ℕ → ℕ → Type 0
TellsVerdict slots service w file line status = (file ≡ []) × ((verdict : Verdict) × IsVerdictLine slots service w verdict line) × (status ≡ 1)

abbrev pub TellsFound : List (List ℕ) → ServiceFields → CertificateFields → Option ℕ → List ℕ → List ℕ → ℕ → Type 0
TellsFound slots service w (Some deadline) file line status = TellsDeadline slots service w deadline file line status
TellsFound slots service w None file line status = TellsNo slots service w file line status

-- the certificate that is found of a cycle and a service, and what goes out
pub record IsFoundAndTold (slots : List (List ℕ)) (service : ServiceFields) (repeat : ℕ) (class : Class) (file line : List ℕ) (status : ℕ)
    : Type 0 where
  pub w : CertificateFields
  pub fields : IsCertificateFields w
  pub ranges : IsCertificate (certificate_at w)
  pub deadline : Option ℕ
  pub found : IsFoundFor slots (pages_of service) repeat service.lines class (certificate_at w) deadline
  pub told : TellsFound slots service w deadline file line status

-- the same for a packet file and the text of a service
pub record IsFinding (a b : List ℕ) (repeat : ℕ) (class : Class) (file line : List ℕ) (status : ℕ) : Type 0 where
  pub slots : List (List ℕ)
  pub service : ServiceFields
  pub cycle_is : IsPacketFile a slots
  pub service_is : IsServiceText b service
  pub told : IsFoundAndTold slots service repeat class file line status

-- why nothing is found: of these bytes there is no cycle, or there is and the text is that of no service
abbrev pub IsNoFinding : List ℕ → List ℕ → ToolFault → Type 0
IsNoFinding a b (Files fault) = IsRefusedServed a b fault
IsNoFinding a b _ = ⊥

abbrev pub FindsText : List ℕ → List ℕ → ℕ → Class → Result (Filed ℕ) ToolFault → Type 0
FindsText a b repeat class (Ok told) = IsFinding a b repeat class told.file.items (string_bytes told.line) told.verdict
FindsText a b repeat class (Err fault) = IsNoFinding a b fault

-- Ok: the bytes of the file and the line. A write fault: the first `written` bytes of both. Otherwise nothing, and why nothing is found.
abbrev pub FindsFiles : List ℕ → List ℕ → ℕ → Class → Option (List ℕ) → Option (List ℕ) → Option (List ℕ) → Option (List ℕ) → Result ℕ ToolFault →
    Type 0
FindsFiles a b repeat class file_old file_new old new (Ok status) =
    (file line : List ℕ) × IsFinding a b repeat class file line status × WritesBoth file line file_old file_new old new (Ok status)
FindsFiles a b repeat class file_old file_new old new (Err (Files (Write written))) =
    (file line : List ℕ) × (status : ℕ) × IsFinding a b repeat class file line status
    × WritesBoth {T = ℕ} file line file_old file_new old new (Err (Write written))
FindsFiles a b repeat class file_old file_new old new (Err fault) = IsNoFinding a b fault × Keeps file_old file_new × Keeps old new
