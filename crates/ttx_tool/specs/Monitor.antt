-- What `monitor` writes for a packet file, the text of a service, that of a certificate, and a feed.
--
--   feed_status, row_status         0 for a yes, 1 for a no
--   feed_said, row_said     the words of a verdict: lines, or an object
--   IsTelling, TellsFeed    the words and the status for a feed of what the three files say, by rows or by bytes; what is returned for the feed
--   IsFaultOfFeed           a fault is that of a read of the feed, or lack of memory
--   IsMonitored             the same for the four files
--   IsNotMonitored, MonitorsText    why there is no verdict; what is returned for the four files
--   Monitors                what was written for each answer
--   IsWellReceived, IsWellReceivedByRows    the feed is a reception within the error rule, from a slot of the cycle on, and who sees each page
--   MeansReceived           what a yes means
use Rattle.std.specs.Prelude.{◌≡◌, ◌⊎◌, ℕ, zero, ◌-◌, ◌^◌, ◌<◌, ◌≤◌, Bool, true, false, List, [], ◌++◌, length, take, string_bytes, ⊤, Option, Result, Ok, Err}
use Rattle.std.specs.Io.KnownBytes.{Appends, Keeps}
use Rattle.ttx_certificate.specs.Entries.{CertificateFields, certificate_at}
use Rattle.ttx_cycle.specs.Files.{IsPacketFile, file_of}
use Rattle.ttx_files.specs.Inputs.{IsRefused}
use Rattle.ttx_files.specs.Texts.{IsServiceText, IsCertificateText}
use Rattle.ttx_files.specs.declared.faults.FeedFault.{FeedFault}
use Rattle.ttx_files.specs.declared.faults.FilesFault.TheVariants.{Write}
use Rattle.ttx_files.specs.declared.told.Told.{Told}
use Rattle.ttx_feed_records.specs.FeedRecords.{feed_record}
use Rattle.ttx_feed_records.specs.RowRecords.{row_record}
use Rattle.ttx_monitor.specs.FeedLines.{feed_text}
use Rattle.ttx_monitor.specs.FeedVerdicts.{IsFeedVerdict}
use Rattle.ttx_monitor.specs.Laws.{IsSeenIn}
use Rattle.ttx_monitor.specs.Watching.{watched, AllReceived}
use Rattle.ttx_monitor.specs.declared.verdict.FeedVerdict.{FeedVerdict}
use Rattle.ttx_monitor.specs.declared.verdict.FeedVerdict.TheVariants.{Unlike, Yes, No, Shifted}
use Rattle.ttx_row_monitor.specs.Laws.{AllReceivedByRows, IsSeenByRowsIn, IsShownByRowsIn}
use Rattle.ttx_row_monitor.specs.RowLines.{row_verdict_text}
use Rattle.ttx_row_monitor.specs.RowVerdicts.{IsRowVerdict}
use Rattle.ttx_row_monitor.specs.declared.verdict.RowVerdict.{RowVerdict}
use Rattle.ttx_row_monitor.specs.declared.verdict.RowVerdict.TheVariants as row
use Rattle.ttx_page.specs.Pages.{Page}
use Rattle.ttx_source.specs.Services.{ServiceFields, pages_of}
use Rattle.ttx_witness.specs.Coverage.{Accepts, limit}
use Rattle.ttx_faults.specs.Feeds.{of_feed}
use Rattle.ttx_faults.specs.declared.faults.ToolFault.{ToolFault}
use Rattle.ttx_faults.specs.declared.faults.ToolFault.TheVariants.{Files, Feed}

abbrev pub feed_status : FeedVerdict → ℕ
feed_status (Unlike unlike) = 1
feed_status (Yes start slots wrong streak rest) = 0
feed_status (No start slot breach) = 1
feed_status (Shifted start slot by count) = 1

abbrev pub row_status : RowVerdict → ℕ
row_status (row.Unlike unlike) = 1
row_status (row.Yes start slots lost rest) = 0
row_status (row.No start slot breach) = 1
row_status (row.Shifted start slot by count) = 1

abbrev pub feed_said : (json : Bool) → List Page → FeedVerdict → List ℕ
feed_said false = feed_text
feed_said true = feed_record

abbrev pub row_said : (json : Bool) → List Page → RowVerdict → List ℕ
row_said false = row_verdict_text
row_said true = row_record

-- the words of the verdict on a feed, and its status
abbrev pub IsTelling : (json by_rows : Bool) → List (List ℕ) → ServiceFields → CertificateFields → Option ℕ → List ℕ → List ℕ → ℕ → Type 0
IsTelling json false slots service w named feed text status =
    (verdict : FeedVerdict) × IsFeedVerdict slots (pages_of service) (certificate_at w) named feed verdict
    × (text ≡ feed_said json (pages_of service) verdict) × (status ≡ feed_status verdict)
IsTelling json true slots service w named feed text status =
    (verdict : RowVerdict) × IsRowVerdict slots (pages_of service) (certificate_at w) named feed verdict
    × (text ≡ row_said json (pages_of service) verdict) × (status ≡ row_status verdict)

abbrev pub TellsFeed : (List ℕ → ℕ → Type 0) → Result (Told ℕ) ToolFault → Type 0
TellsFeed Telling (Ok told) = Telling (string_bytes told.line) told.verdict
TellsFeed Telling (Err fault) = ⊤

-- a read of the feed failed, or memory ran out
abbrev pub IsFaultOfFeed : Result (Told ℕ) ToolFault → Type 0
IsFaultOfFeed (Ok told) = ⊤
IsFaultOfFeed (Err fault) = (f : FeedFault) × (fault ≡ of_feed f)

-- the first three are a packet file, the text of a service and that of a certificate
pub record IsMonitored (json by_rows : Bool) (a b c : List ℕ) (named : Option ℕ) (feed text : List ℕ) (status : ℕ) : Type 0 where
  pub slots : List (List ℕ)
  pub service : ServiceFields
  pub w : CertificateFields
  pub cycle_is : IsPacketFile a slots
  pub service_is : IsServiceText b service
  pub certificate_is : IsCertificateText c w
  pub told : IsTelling json by_rows slots service w named feed text status

-- one of the three is refused, or all are right and the feed fails
abbrev pub IsNotMonitored : List ℕ → List ℕ → List ℕ → ToolFault → Type 0
IsNotMonitored a b c (Files fault) = IsRefused a b c fault
IsNotMonitored a b c Feed =
    (slots : List (List ℕ)) × (service : ServiceFields) × (w : CertificateFields) × IsPacketFile a slots × IsServiceText b service
    × IsCertificateText c w
IsNotMonitored a b c _ = ⊥

abbrev pub MonitorsText : (json by_rows : Bool) → List ℕ → List ℕ → List ℕ → Option ℕ → List ℕ → Result (Told ℕ) ToolFault → Type 0
MonitorsText json by_rows a b c named feed (Ok told) = IsMonitored json by_rows a b c named feed (string_bytes told.line) told.verdict
MonitorsText json by_rows a b c named feed (Err fault) = IsNotMonitored a b c fault

-- Ok: the text went out. A write fault: its first `written` bytes. Otherwise nothing, and why there is no verdict.
abbrev pub Monitors : (json by_rows : Bool) → List ℕ → List ℕ → List ℕ → Option ℕ → List ℕ → Option (List ℕ) → Option (List ℕ) → Result ℕ ToolFault → Type 0
Monitors json by_rows a b c named feed old new (Ok status) =
    (text : List ℕ) × IsMonitored json by_rows a b c named feed text status × Appends old new text
Monitors json by_rows a b c named feed old new (Err (Files (Write written))) =
    (text : List ℕ) × (status : ℕ) × IsMonitored json by_rows a b c named feed text status × (written < length text) × Appends old new (take written text)
Monitors json by_rows a b c named feed old new (Err fault) = IsNotMonitored a b c fault × Keeps old new

-- These are the slots of the feed from its first to its last. They are a reception within the error rule for each page of the service, from
-- slot `start` of the cycle on. If the cycle is accepted with the certificate and the feed reaches the deadline, each permitted receiver of it
-- shows each page.
pub record IsWellReceived (a b c feed : List ℕ) (start : ℕ) : Type 0 where
  pub slots : List (List ℕ)
  pub service : ServiceFields
  pub w : CertificateFields
  pub cycle_is : IsPacketFile a slots
  pub service_is : IsServiceText b service
  pub certificate_is : IsCertificateText c w
  pub received : List (List ℕ)
  pub rest : List ℕ
  pub same : feed ≡ file_of received ++ rest
  pub all : (length rest < 42) ⊎ (2 ^ 64 - 1 ≤ length received)
  pub within : AllReceived (watched slots (pages_of service) (certificate_at w).repeat start) received
  pub seen : Accepts slots (pages_of service) (certificate_at w) → limit (certificate_at w) ≤ length received →
      IsSeenIn (watched slots (pages_of service) (certificate_at w).repeat start) received (certificate_at w)

-- the same by rows, for receivers that refuse rows, and for those of them that show pages late
pub record IsWellReceivedByRows (a b c feed : List ℕ) (start : ℕ) : Type 0 where
  pub slots : List (List ℕ)
  pub service : ServiceFields
  pub w : CertificateFields
  pub cycle_is : IsPacketFile a slots
  pub service_is : IsServiceText b service
  pub certificate_is : IsCertificateText c w
  pub received : List (List ℕ)
  pub rest : List ℕ
  pub same : feed ≡ file_of received ++ rest
  pub all : (length rest < 42) ⊎ (2 ^ 64 - 1 ≤ length received)
  pub within : AllReceivedByRows (watched slots (pages_of service) (certificate_at w).repeat start) received
  pub seen : Accepts slots (pages_of service) (certificate_at w) → limit (certificate_at w) ≤ length received →
      IsSeenByRowsIn (watched slots (pages_of service) (certificate_at w).repeat start) received (certificate_at w)
  pub shown : Accepts slots (pages_of service) (certificate_at w) →
      IsShownByRowsIn (watched slots (pages_of service) (certificate_at w).repeat start) received (certificate_at w)

-- the status 0 goes with words that name the start
abbrev pub MeansReceived : (json by_rows : Bool) → List ℕ → List ℕ → List ℕ → List ℕ → Option (List ℕ) → Option (List ℕ) → Result ℕ ToolFault → Type 0
MeansReceived json false a b c feed old new (Ok zero) =
    (start slots wrong streak rest : ℕ) × Appends old new (feed_said json [] (Yes start slots wrong streak rest)) × IsWellReceived a b c feed start
MeansReceived json true a b c feed old new (Ok zero) =
    (start slots lost rest : ℕ) × Appends old new (row_said json [] (row.Yes start slots lost rest)) × IsWellReceivedByRows a b c feed start
MeansReceived json by_rows a b c feed old new _ = ⊤
