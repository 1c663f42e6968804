-- What `report` writes for a packet file, the text of a service and that of a certificate.
--
--   ReadsSealed                     what is returned for the text of a certificate, with its bytes
--   IsNoFiling, ReadsFiling         why the three are not read, and what is returned for them
--   TellsReport             the report on a cycle, a service and a certificate
--   IsReporting, ReportsText, ReportsFiles  the report on three files, the answer for them, and what is written for each answer
use Rattle.std.specs.Prelude.{◌≡◌, ℕ, ◌<◌, List, length, take, map, string_bytes, Option, Result, Ok, Err}
use Rattle.std.specs.Io.KnownBytes.{Appends, Keeps}
use Rattle.ttx_certificate.specs.Certificates.{fields_of}
use Rattle.ttx_certificate.specs.Entries.{CertificateFields}
use Rattle.ttx_certify.specs.declared.verdict.Verdict.{Verdict}
use Rattle.ttx_cycle.specs.Cycles.{slots_of}
use Rattle.ttx_cycle.specs.Files.{IsPacketFile}
use Rattle.ttx_files.specs.Texts.{IsCertificateText, ReadsWitness}
use Rattle.ttx_files.specs.declared.faults.FilesFault.{FilesFault}
use Rattle.ttx_files.specs.declared.faults.FilesFault.TheVariants.{Certificate, Read, TooLong, Write}
use Rattle.ttx_files.specs.declared.faults.TextFile.TheVariants as text
use Rattle.ttx_files.specs.declared.told.Told.{Told}
use Rattle.ttx_report.specs.Files.{Marks, marks_of, marks_view}
use Rattle.ttx_report.specs.Reports.{IsReport}
use Rattle.ttx_source.specs.PromiseViews.{promise_view}
use Rattle.ttx_source.specs.Promises.{PromiseFields}
use Rattle.ttx_source.specs.Services.{ServiceFields}
use Rattle.ttx_tool.specs.Answers.{verdict_status}
use Rattle.ttx_tool.specs.Promised.{IsPromisedText, IsNoPromisedInput}
use Rattle.ttx_tool.specs.Version.{version_text}
use Rattle.ttx_tool.specs.declared.commands.report.Filed.{Filed}
use Rattle.ttx_tool.specs.declared.commands.report.Sealed.{Sealed}
use Rattle.ttx_faults.specs.declared.faults.ToolFault.{ToolFault}
use Rattle.ttx_faults.specs.declared.faults.ToolFault.TheVariants.{Files}

abbrev pub ReadsSealed : List ℕ → Result Sealed ToolFault → Type 0
ReadsSealed bytes (Ok s) = IsCertificateText bytes (fields_of s.certificate) × (s.text.items ≡ bytes)
ReadsSealed bytes (Err (Files fault)) = ReadsWitness bytes (Err fault)
ReadsSealed bytes (Err _) = ⊥

-- the certificate is not read, or an input before it
abbrev pub IsUnsealed : List ℕ → List ℕ → List ℕ → FilesFault → Type 0
IsUnsealed a b c fault =
    (slots : List (List ℕ)) × (service : ServiceFields) × (promises : List PromiseFields) × IsPacketFile a slots
    × IsPromisedText b service promises × ReadsWitness c (Err fault)

abbrev pub IsNoFiling : List ℕ → List ℕ → List ℕ → ToolFault → Type 0
IsNoFiling a b c (Files (Certificate fault)) = IsUnsealed a b c (Certificate fault)
IsNoFiling a b c (Files (Read text.Certificate)) = IsUnsealed a b c (Read text.Certificate)
IsNoFiling a b c (Files (TooLong text.Certificate)) = IsUnsealed a b c (TooLong text.Certificate)
IsNoFiling a b c fault = IsNoPromisedInput a b fault

abbrev pub ReadsFiling : List ℕ → List ℕ → List ℕ → Result Filed ToolFault → Type 0
ReadsFiling a b c (Ok f) =
    IsPacketFile a (slots_of f.cycle) × IsPromisedText b f.promised.service (map promise_view f.promised.promises.items)
    × IsCertificateText c (fields_of f.certificate) × (marks_view f.marks ≡ marks_of a b c)
ReadsFiling a b c (Err fault) = IsNoFiling a b c fault

-- the document and the status: 0 for a yes, 1 for a no
pub record TellsReport (slots : List (List ℕ)) (service : ServiceFields) (promises : List PromiseFields) (w : CertificateFields) (marks : Marks)
    (date : Option (List ℕ)) (text : List ℕ) (status : ℕ) : Type 0 where
  pub verdict : Verdict
  pub told : IsReport slots service promises w verdict marks version_text date text
  pub status_is : status ≡ verdict_status verdict

-- the report on what the three files say, with the SHA-256 of their bytes
pub record IsReporting (a b c : List ℕ) (date : Option (List ℕ)) (text : List ℕ) (status : ℕ) : Type 0 where
  pub slots : List (List ℕ)
  pub service : ServiceFields
  pub promises : List PromiseFields
  pub w : CertificateFields
  pub cycle_is : IsPacketFile a slots
  pub service_is : IsPromisedText b service promises
  pub certificate_is : IsCertificateText c w
  pub told : TellsReport slots service promises w (marks_of a b c) date text status

abbrev pub ReportsText : List ℕ → List ℕ → List ℕ → Option (List ℕ) → Result (Told ℕ) ToolFault → Type 0
ReportsText a b c date (Ok told) = IsReporting a b c date (string_bytes told.line) told.verdict
ReportsText a b c date (Err fault) = IsNoFiling a b c fault

-- Ok: the document went out. A write fault: its first `written` bytes. Otherwise nothing, and why there is no report.
abbrev pub ReportsFiles : List ℕ → List ℕ → List ℕ → Option (List ℕ) → Option (List ℕ) → Option (List ℕ) → Result ℕ ToolFault → Type 0
ReportsFiles a b c date old new (Ok status) = (text : List ℕ) × IsReporting a b c date text status × Appends old new text
ReportsFiles a b c date old new (Err (Files (Write written))) =
    (text : List ℕ) × (status : ℕ) × IsReporting a b c date text status × (written < length text) × Appends old new (take written text)
ReportsFiles a b c date old new (Err fault) = IsNoFiling a b c fault × Keeps old new
