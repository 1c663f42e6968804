-- What `find` with a deadline writes for a packet file and the text of a service.
--
--   TellsRefused, WritesAsked       what goes out at a no, and at each verdict
--   TellsAsked              the same; at a yes the text is short enough to be read, and each page is seen
--   IsAskedAndTold, IsAsked         the certificate with the deadline that is asked for, of a cycle and a service, and of their texts
--   AsksText                what is returned for them
--   AsksFiles               what was written to the certificate's file and to the output, for each answer
use Rattle.std.specs.Prelude.{◌≡◌, ℕ, List, [], length, string_bytes, Option, Result, Ok, Err}
use Rattle.std.specs.Io.KnownBytes.{Keeps}
use Rattle.ttx_cycle.specs.Files.{IsPacketFile}
use Rattle.ttx_source.specs.Services.{ServiceFields, pages_of}
use Rattle.ttx_certificate.specs.Entries.{CertificateFields}
use Rattle.ttx_witness.specs.declared.faults.reason.Reason.{Reason}
use Rattle.ttx_files.specs.Answers.{WritesBoth}
use Rattle.ttx_files.specs.Texts.{IsServiceText}
use Rattle.ttx_files.specs.declared.faults.FilesFault.TheVariants.{Write}
use Rattle.ttx_files.specs.declared.told.Filed.{Filed}
use Rattle.ttx_certify.specs.VerdictLines.{verdict_line}
use Rattle.ttx_certify.specs.declared.verdict.Verdict.{Verdict}
use Rattle.ttx_certify.specs.declared.verdict.Verdict.TheVariants.{Yes, No}
use Rattle.ttx_deadline.specs.Deadlines.{IsFoundWith}
use Rattle.ttx_deadline.specs.declared.asked_deadlines.Asked.{Asked}
use Rattle.ttx_tool.specs.Find.{WritesDeadline, TellsDeadline, IsNoFinding}
use Rattle.ttx_faults.specs.declared.faults.ToolFault.{ToolFault}
use Rattle.ttx_faults.specs.declared.faults.ToolFault.TheVariants.{Files}

-- nothing into the file, and the line of the no on so many pages
abbrev pub TellsRefused : CertificateFields → ℕ → Reason → List ℕ → List ℕ → ℕ → Type 0
TellsRefused w pages reason file line status = (file ≡ []) × (line ≡ verdict_line w pages (No reason)) × (status ≡ 1)

-- yes: the certificate's text into the file, and the line of its deadline
abbrev pub WritesAsked : CertificateFields → ℕ → ℕ → Verdict → List ℕ → List ℕ → ℕ → Type 0
WritesAsked w deadline pages Yes file line status = WritesDeadline w deadline file line status
WritesAsked w deadline pages (No reason) file line status = TellsRefused w pages reason file line status

-- the same; at a yes the text is short enough to be read, and each page is seen
abbrev pub TellsAsked : List (List ℕ) → ServiceFields → CertificateFields → ℕ → Verdict → List ℕ → List ℕ → ℕ → Type 0
TellsAsked slots service w deadline Yes file line status = TellsDeadline slots service w deadline file line status
TellsAsked slots service w deadline (No reason) file line status = TellsRefused w (length service.pages) reason file line status

-- the certificate of a cycle and a service with the deadline that is asked for, the verdict on it, and what goes out
pub record IsAskedAndTold (slots : List (List ℕ)) (service : ServiceFields) (asked : Asked) (file line : List ℕ) (status : ℕ) : Type 0 where
  pub w : CertificateFields
  pub verdict : Verdict
  pub found : IsFoundWith slots (pages_of service) service.lines asked w verdict
  pub told : TellsAsked slots service w asked.deadline verdict file line status

-- the same for a packet file and the text of a service
pub record IsAsked (a b : List ℕ) (asked : Asked) (file line : List ℕ) (status : ℕ) : Type 0 where
  pub slots : List (List ℕ)
  pub service : ServiceFields
  pub cycle_is : IsPacketFile a slots
  pub service_is : IsServiceText b service
  pub told : IsAskedAndTold slots service asked file line status

abbrev pub AsksText : List ℕ → List ℕ → Asked → Result (Filed ℕ) ToolFault → Type 0
AsksText a b asked (Ok told) = IsAsked a b asked told.file.items (string_bytes told.line) told.verdict
AsksText a b asked (Err fault) = IsNoFinding a b fault

-- Ok: the bytes of the file and the line. A write fault: the first `written` bytes of both. Otherwise nothing, and why nothing is found.
abbrev pub AsksFiles : List ℕ → List ℕ → Asked → Option (List ℕ) → Option (List ℕ) → Option (List ℕ) → Option (List ℕ) → Result ℕ ToolFault →
    Type 0
AsksFiles a b asked file_old file_new old new (Ok status) =
    (file line : List ℕ) × IsAsked a b asked file line status × WritesBoth file line file_old file_new old new (Ok status)
AsksFiles a b asked file_old file_new old new (Err (Files (Write written))) =
    (file line : List ℕ) × (status : ℕ) × IsAsked a b asked file line status
    × WritesBoth {T = ℕ} file line file_old file_new old new (Err (Write written))
AsksFiles a b asked file_old file_new old new (Err fault) = IsNoFinding a b fault × Keeps file_old file_new × Keeps old new
