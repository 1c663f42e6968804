-- What `wait` writes for a packet file and the text of a service.
--
--   wait_status             0 where there is a deadline for all pages, else 1
--   promised_status         the same where the pages have promises, and none comes too late
--   shows_promises          whether waits stand beside promises
--   IsWaitOf, IsPromisedWaitOf, IsWaitBeside        the lines for a cycle and a service; beside its promises; either of both
--   IsNumbersWaitOf         the same, and behind them those of the numbers with several pages
--   IsWaitRecordOf, IsItemRecordOf, IsRecordOf, IsNumbersRecordOf   the same as objects: beside promises; with items; either; with numbers
--   IsWaitAsked             what is asked for
--   IsWaiting               the same for their texts
--   WaitsText               what is returned for them
--   Waits                   what was written for each answer
use Rattle.std.specs.Prelude.{◌≡◌, ℕ, ◌<◌, nat_lt, Bool, true, false, if◌then◌else◌, List, ◌++◌, length, take, string_bytes, Option, Some, None, Result, Ok, Err}
use Rattle.std.specs.Io.KnownBytes.{Appends, Keeps}
use Rattle.ttx_cycle.specs.Files.{IsPacketFile}
use Rattle.ttx_files.specs.declared.faults.FilesFault.TheVariants.{Write}
use Rattle.ttx_files.specs.declared.told.Told.{Told}
use Rattle.ttx_page.specs.declared.class.Class.{Class}
use Rattle.ttx_promise.specs.PromisedReports.{IsPromisedReport}
use Rattle.ttx_records.specs.ItemWaits.{IsItemWaitRecord}
use Rattle.ttx_records.specs.NumberWaits.{IsNumberWaitRecord}
use Rattle.ttx_records.specs.WaitReports.{IsWaitRecord}
use Rattle.ttx_source.specs.Promises.{PromiseFields}
use Rattle.ttx_source.specs.Services.{ServiceFields, pages_of}
use Rattle.ttx_subpages.specs.NumberWaits.{IsNumberWaits}
use Rattle.ttx_tool.specs.Promised.{IsPromisedText, IsNoPromisedInput}
use Rattle.ttx_tool.specs.declared.commands.wait.Question.{Question}
use Rattle.ttx_faults.specs.declared.faults.ToolFault.{ToolFault}
use Rattle.ttx_faults.specs.declared.faults.ToolFault.TheVariants.{Files}
use Rattle.ttx_wait.specs.Reports.{IsReportWith}
use Rattle.ttx_wait.specs.declared.reports.Detail.{Detail}
use Rattle.ttx_wait.specs.declared.reports.Detail.TheVariants as detail

abbrev pub wait_status : Option ℕ → ℕ
wait_status None = 1
wait_status (Some deadline) = 0

abbrev pub promised_status : Bool → Option ℕ → ℕ
promised_status late deadline = if late then 1 else wait_status deadline

-- the lines of a report on the slots and the pages of the service, and the status of its deadline
pub record IsWaitOf (slots : List (List ℕ)) (service : ServiceFields) (repeat : ℕ) (class : Class) (detail : Detail) (text : List ℕ) (status : ℕ)
    : Type 0 where
  pub deadline : Option ℕ
  pub report : IsReportWith detail slots (pages_of service) class repeat service.lines text deadline
  pub status_is : status ≡ wait_status deadline

-- they do where there are some, and no items are asked for
abbrev pub shows_promises : ℕ → Detail → Bool
shows_promises count detail.Pages = nat_lt 0 count
shows_promises count detail.Items = false

-- the lines beside promises
pub record IsPromisedWaitOf (slots : List (List ℕ)) (service : ServiceFields) (promises : List PromiseFields) (repeat : ℕ) (class : Class)
    (text : List ℕ) (status : ℕ) : Type 0 where
  pub deadline : Option ℕ
  pub late : Bool
  pub report : IsPromisedReport slots service class repeat promises text deadline late
  pub status_is : status ≡ promised_status late deadline

abbrev pub IsWaitBeside : Bool → List (List ℕ) → ServiceFields → List PromiseFields → ℕ → Class → Detail → List ℕ → ℕ → Type 0
IsWaitBeside true slots service promises repeat class detail text status = IsPromisedWaitOf slots service promises repeat class text status
IsWaitBeside false slots service promises repeat class detail text status = IsWaitOf slots service repeat class detail text status

pub record IsNumbersWaitOf (beside : Bool) (slots : List (List ℕ)) (service : ServiceFields) (promises : List PromiseFields) (repeat : ℕ)
    (class : Class) (detail : Detail) (text : List ℕ) (status : ℕ) : Type 0 where
  pub waits : List ℕ
  pub numbers : List ℕ
  pub told : IsWaitBeside beside slots service promises repeat class detail waits status
  pub lines : IsNumberWaits slots service numbers
  pub text_is : text ≡ waits ++ numbers

pub record IsWaitRecordOf (slots : List (List ℕ)) (service : ServiceFields) (promises : List PromiseFields) (repeat : ℕ) (class : Class)
    (text : List ℕ) (status : ℕ) : Type 0 where
  pub deadline : Option ℕ
  pub late : Bool
  pub report : IsWaitRecord slots service class repeat promises text deadline late
  pub status_is : status ≡ promised_status late deadline

pub record IsItemRecordOf (slots : List (List ℕ)) (service : ServiceFields) (repeat : ℕ) (class : Class) (text : List ℕ) (status : ℕ)
    : Type 0 where
  pub deadline : Option ℕ
  pub report : IsItemWaitRecord slots service class repeat text deadline
  pub status_is : status ≡ wait_status deadline

abbrev pub IsRecordOf : Detail → List (List ℕ) → ServiceFields → List PromiseFields → ℕ → Class → List ℕ → ℕ → Type 0
IsRecordOf detail.Pages slots service promises repeat class text status = IsWaitRecordOf slots service promises repeat class text status
IsRecordOf detail.Items slots service promises repeat class text status = IsItemRecordOf slots service repeat class text status

pub record IsNumbersRecordOf (slots : List (List ℕ)) (service : ServiceFields) (promises : List PromiseFields) (repeat : ℕ) (class : Class)
    (detail : Detail) (text : List ℕ) (status : ℕ) : Type 0 where
  pub waits : List ℕ
  pub numbers : List ℕ
  pub told : IsRecordOf detail slots service promises repeat class waits status
  pub lines : IsNumberWaitRecord slots service numbers
  pub text_is : text ≡ waits ++ numbers

abbrev pub IsWaitBy : (json numbers : Bool) → Question → Bool → List (List ℕ) → ServiceFields → List PromiseFields → List ℕ → ℕ → Type 0
IsWaitBy true true q beside slots service promises text status =
    IsNumbersRecordOf slots service promises q.repeat q.class q.detail text status
IsWaitBy true false q beside slots service promises text status = IsRecordOf q.detail slots service promises q.repeat q.class text status
IsWaitBy false true q beside slots service promises text status =
    IsNumbersWaitOf beside slots service promises q.repeat q.class q.detail text status
IsWaitBy false false q beside slots service promises text status =
    IsWaitBeside beside slots service promises q.repeat q.class q.detail text status

abbrev pub IsWaitAsked : Question → Bool → List (List ℕ) → ServiceFields → List PromiseFields → List ℕ → ℕ → Type 0
IsWaitAsked q = IsWaitBy q.json q.numbers q

-- the same for a packet file and the text of a service
pub record IsWaiting (a b : List ℕ) (q : Question) (text : List ℕ) (status : ℕ) : Type 0 where
  pub slots : List (List ℕ)
  pub service : ServiceFields
  pub cycle_is : IsPacketFile a slots
  pub promises : List PromiseFields
  pub service_is : IsPromisedText b service promises
  pub told : IsWaitAsked q (shows_promises (length promises) q.detail) slots service promises text status

abbrev pub WaitsText : List ℕ → List ℕ → Question → Result (Told ℕ) ToolFault → Type 0
WaitsText a b q (Ok told) = IsWaiting a b q (string_bytes told.line) told.verdict
WaitsText a b q (Err fault) = IsNoPromisedInput a b fault

-- Ok: the lines went out. A write fault: their first `written` bytes. Otherwise nothing, and why there is no cycle or no service.
abbrev pub Waits : List ℕ → List ℕ → Question → Option (List ℕ) → Option (List ℕ) → Result ℕ ToolFault → Type 0
Waits a b q old new (Ok status) = (text : List ℕ) × IsWaiting a b q text status × Appends old new text
Waits a b q old new (Err (Files (Write written))) =
    (text : List ℕ) × (status : ℕ) × IsWaiting a b q text status × (written < length text) × Appends old new (take written text)
Waits a b q old new (Err fault) = IsNoPromisedInput a b fault × Keeps old new
