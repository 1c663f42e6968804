-- The line of a fault, and the status of the program after it.
--
--   source_text, refused_service, service_text, certificate_refusal        the words about a service definition, and about a certificate
--   extract_text, extract_status            the words about a cycle that has no service text, and the status
--   run_text, run_status    the words about the text of a counter-run, and the status
--   files_text, fault_text, fault_line      what a fault is called, of a file and of a command, and its line
--   air_line                why nothing is sent
--   files_status, status_of the status after it
--   Reports, ReportsWords    what a report wrote for each answer
use Rattle.std.specs.Prelude.{◌≡◌, ℕ, ◌<◌, List, [], ◌∷◌, ◌++◌, length, take, Option, Result, Ok, Err, codes}
use Rattle.std.specs.Fmt.{decimal}
use Rattle.std.specs.Io.KnownBytes.{Appends, Keeps}
use Rattle.ttx_cycle.specs.declared.faults.CycleFault.TheVariants as cycle
use Rattle.ttx_counter.specs.declared.counter_faults.CounterFault.TheVariants as counter
use Rattle.ttx_extract.specs.Refusals.{refusal_text}
use Rattle.ttx_extract.specs.declared.faults.ExtractFault.{ExtractFault}
use Rattle.ttx_extract.specs.declared.faults.ExtractFault.TheVariants as extract
use Rattle.ttx_plan.specs.declared.faults.PlanFault.TheVariants as plan
use Rattle.ttx_source.specs.Faults.{fault_of}
use Rattle.ttx_source.specs.Values.{Fault, not_toml, missing, wrong_kind, wrong_page_number, wrong_subcode, duplicate, too_long, wrong_character}
use Rattle.ttx_source.specs.Values.{wrong_often, out_of_range, no_memory}
use Rattle.ttx_certificate.specs.declared.certificate_faults.CertFault.{CertFault}
use Rattle.ttx_certificate.specs.declared.certificate_faults.CertFault.TheVariants as cert
use Rattle.ttx_files.specs.declared.faults.FilesFault.{FilesFault}
use Rattle.ttx_files.specs.declared.faults.FilesFault.TheVariants.{Cycle, Service, Certificate, Read, TooLong, Write, NoMemory}
use Rattle.ttx_files.specs.declared.faults.TextFile.TheVariants as text
use Rattle.ttx_arguments.specs.Conflicts.{conflict_line}
use Rattle.ttx_arguments.specs.declared.orders.WordsFault.{WordsFault}
use Rattle.ttx_arguments.specs.declared.orders.WordsFault.TheVariants as words
use Rattle.ttx_faults.specs.declared.faults.ToolFault.{ToolFault}
use Rattle.ttx_faults.specs.declared.faults.ToolFault.TheVariants.{Files, Plan, Class, Same, Counter, Feed}
use Rattle.ttx_faults.specs.declared.faults.AirRefusal.{AirRefusal}
use Rattle.ttx_faults.specs.declared.faults.AirRefusal.TheVariants as air
use Rattle.ttx_faults.specs.declared.faults.CounterFileFault.{CounterFileFault}
use Rattle.ttx_faults.specs.declared.faults.CounterFileFault.TheVariants as run

-- the number and the name of a fault of a service definition, and its key where it names one
abbrev pub source_text : Fault → List ℕ
source_text not_toml = codes "1 not-toml"
source_text (missing key) = codes "2 missing " ++ key
source_text (wrong_kind key) = codes "3 kind " ++ key
source_text wrong_page_number = codes "4 page-number"
source_text wrong_subcode = codes "5 subcode"
source_text duplicate = codes "6 duplicate"
source_text too_long = codes "7 row-too-long"
source_text wrong_character = codes "8 character"
source_text wrong_often = codes "9 often"
source_text (out_of_range key) = codes "10 range " ++ key
source_text no_memory = codes "11 no-memory"

-- a service definition that is refused for this, with the page that the fault is in
abbrev pub refused_service : List ℕ → ℕ → List ℕ
refused_service why page = codes "refused: service " ++ why ++ codes " page " ++ decimal page

-- lack of memory is no refusal
abbrev pub service_text : Fault → ℕ → List ℕ
service_text no_memory page = codes "fault: memory"
service_text fault page = refused_service (source_text fault) page

-- a refused certificate, with the line that the fault is in
abbrev pub certificate_refusal : CertFault → List ℕ
certificate_refusal cert.Title = codes "refused: certificate 1 title"
certificate_refusal (cert.Line line) = codes "refused: certificate 2 line line " ++ decimal line
certificate_refusal (cert.Order line) = codes "refused: certificate 3 order line " ++ decimal line
certificate_refusal (cert.Range line) = codes "refused: certificate 4 range line " ++ decimal line
certificate_refusal cert.NoMemory = codes "fault: memory"

-- a cycle of which no service text is made; the fault of the text itself is that of a service definition
abbrev pub extract_text : ExtractFault → List ℕ
extract_text (extract.Service error) = service_text (fault_of error.fault) error.page
extract_text extract.TooLong = codes "refused: service too-long"
extract_text extract.NoMemory = codes "fault: memory"
extract_text fault = codes "refused: " ++ refusal_text fault

-- a refused counter-run, with the line that the fault is in
abbrev pub run_text : CounterFileFault → List ℕ
run_text run.Read = codes "fault: read"
run_text run.TooLong = codes "refused: counter too-long"
run_text (run.Text counter.Title) = codes "refused: counter 1 title"
run_text (run.Text (counter.Line line)) = codes "refused: counter 2 line line " ++ decimal line
run_text (run.Text counter.NoMemory) = codes "fault: memory"

-- what a refusal or a fault of a file is called
abbrev pub files_text : FilesFault → List ℕ
files_text (Cycle cycle.Read) = codes "fault: read"
files_text (Cycle (cycle.Truncated rest)) = codes "refused: cycle 2 truncated " ++ decimal rest
files_text (Cycle cycle.Empty) = codes "refused: cycle 3 empty"
files_text (Cycle cycle.TooLong) = codes "refused: cycle 4 too-long"
files_text (Cycle cycle.NoMemory) = codes "fault: memory"
files_text (Service error) = service_text (fault_of error.fault) error.page
files_text (Certificate fault) = certificate_refusal fault
files_text (Read which) = codes "fault: read"
files_text (TooLong text.Service) = codes "refused: service too-long"
files_text (TooLong text.Certificate) = codes "refused: certificate too-long"
files_text (Write written) = codes "fault: write"
files_text NoMemory = codes "fault: memory"

abbrev pub fault_text : ToolFault → List ℕ
fault_text (Files fault) = files_text fault
fault_text (Plan plan.NoPages) = codes "refused: plan 1 no-pages"
fault_text (Plan plan.TooLong) = codes "refused: plan 2 too-long"
fault_text (Plan plan.NoMemory) = codes "fault: memory"
fault_text Class = codes "refused: class"
fault_text Same = codes "refused: same"
fault_text (Counter fault) = run_text fault
fault_text Feed = codes "fault: read"

-- why nothing is sent
abbrev pub air_line : AirRefusal → List ℕ
air_line air.Time = codes "refused: time\n"
air_line air.Zone = codes "refused: zone\n"
air_line air.Terminal = codes "refused: terminal\n"

abbrev pub fault_line : ToolFault → List ℕ
fault_line fault = fault_text fault ++ 10 ∷ []

abbrev pub service_status : Fault → ℕ
service_status no_memory = 3
service_status fault = 2

abbrev pub extract_status : ExtractFault → ℕ
extract_status (extract.Service error) = service_status (fault_of error.fault)
extract_status extract.NoMemory = 3
extract_status fault = 2

abbrev pub run_status : CounterFileFault → ℕ
run_status run.Read = 3
run_status run.TooLong = 2
run_status (run.Text counter.Title) = 2
run_status (run.Text (counter.Line line)) = 2
run_status (run.Text counter.NoMemory) = 3

-- 2 for a refusal, 3 for a fault
abbrev pub files_status : FilesFault → ℕ
files_status (Cycle cycle.Read) = 3
files_status (Cycle (cycle.Truncated rest)) = 2
files_status (Cycle cycle.Empty) = 2
files_status (Cycle cycle.TooLong) = 2
files_status (Cycle cycle.NoMemory) = 3
files_status (Service error) = service_status (fault_of error.fault)
files_status (Certificate cert.Title) = 2
files_status (Certificate (cert.Line line)) = 2
files_status (Certificate (cert.Order line)) = 2
files_status (Certificate (cert.Range line)) = 2
files_status (Certificate cert.NoMemory) = 3
files_status (Read which) = 3
files_status (TooLong which) = 2
files_status (Write written) = 3
files_status NoMemory = 3

abbrev pub status_of : ToolFault → ℕ
status_of (Files fault) = files_status fault
status_of (Plan plan.NoPages) = 2
status_of (Plan plan.TooLong) = 2
status_of (Plan plan.NoMemory) = 3
status_of Class = 2
status_of Same = 2
status_of (Counter fault) = run_status fault
status_of Feed = 3

-- the line went out, or its first `written` bytes, or nothing
abbrev pub Reports : List ℕ → ℕ → Option (List ℕ) → Option (List ℕ) → Result ℕ ToolFault → Type 0
Reports line status old new (Ok s) = (s ≡ status) × Appends old new line
Reports line status old new (Err (Files (Write written))) = (written < length line) × Appends old new (take written line)
Reports line status old new (Err (Files NoMemory)) = Keeps old new
Reports line status old new (Err _) = ⊥

-- Of what `clap` refuses its own text is written, whatever it is.
abbrev pub ReportsWords : WordsFault → Option (List ℕ) → Option (List ℕ) → Result ℕ ToolFault → Type 0
ReportsWords (words.Refused error) old new result = (text : List ℕ) × Reports text 2 old new result
ReportsWords words.Page old new result = Reports (codes "refused: page" ++ 10 ∷ []) 2 old new result
ReportsWords words.Time old new result = Reports (codes "refused: time" ++ 10 ∷ []) 2 old new result
ReportsWords words.Seconds old new result = Reports (codes "refused: seconds" ++ 10 ∷ []) 2 old new result
ReportsWords words.Deadlines old new result = Reports (codes "refused: deadlines" ++ 10 ∷ []) 2 old new result
ReportsWords words.Within old new result = Reports (codes "refused: within" ++ 10 ∷ []) 2 old new result
ReportsWords words.Numbers old new result = Reports (codes "refused: numbers" ++ 10 ∷ []) 2 old new result
ReportsWords words.Clocks old new result = Reports (codes "refused: clocks" ++ 10 ∷ []) 2 old new result
ReportsWords words.Twice old new result = Reports (codes "refused: twice" ++ 10 ∷ []) 2 old new result
ReportsWords words.Forms old new result = Reports (codes "refused: forms" ++ 10 ∷ []) 2 old new result
ReportsWords (words.Apart conflict) old new result = Reports (conflict_line conflict) 2 old new result
ReportsWords words.NoMemory old new result = Reports (fault_line (Files NoMemory)) 3 old new result
