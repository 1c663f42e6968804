-- What `monitor` writes while a feed comes.
--
--   report_status           0 for a yes, 1 for a no
--   report_words            lines, or objects
--   IsReportedAs            the answer is that of a feed's report
--   IsRefusedWith           the answer is a refusal of one of the three files
--   MonitorsLines           what was written for each answer
--   MeansReported           what a yes means
use Rattle.std.specs.Prelude.{◌≡◌, ◌⊎◌, ℕ, zero, Bool, true, false, List, [], ◌++◌, ⊤, Option, Some, None, Result, Ok, Err}
use Rattle.std.specs.Io.KnownBytes.{Appends, Keeps}
use Rattle.ttx_certificate.specs.Entries.{CertificateFields, certificate_at}
use Rattle.ttx_cycle.specs.Files.{IsPacketFile}
use Rattle.ttx_files.specs.Inputs.{IsRefused}
use Rattle.ttx_files.specs.Texts.{IsServiceText, IsCertificateText}
use Rattle.ttx_files.specs.declared.faults.FilesFault.TheVariants.{Write, NoMemory}
use Rattle.ttx_files.specs.declared.faults.FeedFault.TheVariants as feed
use Rattle.ttx_feed_records.specs.ReportRecords.{in_objects}
use Rattle.ttx_monitor.specs.EventLines.{in_lines}
use Rattle.ttx_monitor.specs.FeedReports.{ReportsFeed}
use Rattle.ttx_monitor.specs.Wordings.{Words}
use Rattle.ttx_monitor.specs.declared.asked.Asked.{Asked}
use Rattle.ttx_monitor.specs.declared.live_feed.FollowFault.{FollowFault}
use Rattle.ttx_monitor.specs.declared.live_feed.FollowFault.TheVariants as follow
use Rattle.ttx_monitor.specs.declared.verdict.FeedVerdict.{FeedVerdict}
use Rattle.ttx_monitor.specs.declared.verdict.FeedVerdict.TheVariants.{Yes}
use Rattle.ttx_source.specs.Services.{ServiceFields, pages_of}
use Rattle.ttx_tool.specs.Monitor.{feed_status, feed_said, IsWellReceived}
use Rattle.ttx_faults.specs.declared.faults.ToolFault.{ToolFault}
use Rattle.ttx_faults.specs.declared.faults.ToolFault.TheVariants.{Files, Feed}

abbrev pub report_status : Option FeedVerdict → ℕ
report_status None = 1
report_status (Some verdict) = feed_status verdict

abbrev pub report_words : (json : Bool) → Words
report_words false = in_lines
report_words true = in_objects

abbrev pub IsReportedAs : (Result (Option FeedVerdict) FollowFault → Type 0) → Result ℕ ToolFault → Type 0
IsReportedAs Reports (Ok status) = (verdict : Option FeedVerdict) × (status ≡ report_status verdict) × Reports (Ok verdict)
IsReportedAs Reports (Err Feed) = Reports (Err (follow.Feed feed.Read))
IsReportedAs Reports (Err (Files NoMemory)) = Reports (Err (follow.Feed feed.NoMemory))
IsReportedAs Reports (Err (Files (Write written))) = Reports (Err (follow.Write written))
IsReportedAs Reports (Err _) = ⊥

abbrev pub IsRefusedWith : List ℕ → List ℕ → List ℕ → Result ℕ ToolFault → Type 0
IsRefusedWith a b c (Err (Files fault)) = IsRefused a b c fault
IsRefusedWith a b c _ = ⊥

-- one of the first three is refused and nothing goes out; or they are a packet file, the text of a service and that of a certificate, and the
-- feed is reported
abbrev pub MonitorsLines : (json : Bool) → List ℕ → List ℕ → List ℕ → Asked → List ℕ → Option (List ℕ) → Option (List ℕ) → Result ℕ ToolFault → Type 0
MonitorsLines json a b c asked feed old new result =
    (IsRefusedWith a b c result × Keeps old new)
    ⊎ ((slots : List (List ℕ)) × (service : ServiceFields) × (w : CertificateFields) × IsPacketFile a slots × IsServiceText b service
    × IsCertificateText c w × IsReportedAs (ReportsFeed (report_words json) slots (pages_of service) (certificate_at w) asked feed old new) result)

-- the status 0 goes with a yes that names the start, after lines of state and before the last one
abbrev pub MeansReported : (json : Bool) → List ℕ → List ℕ → List ℕ → List ℕ → Option (List ℕ) → Option (List ℕ) → Result ℕ ToolFault → Type 0
MeansReported json a b c feed old new (Ok zero) =
    (before after : List ℕ) × (start slots wrong streak rest : ℕ)
    × Appends old new (before ++ feed_said json [] (Yes start slots wrong streak rest) ++ after) × IsWellReceived a b c feed start
MeansReported json a b c feed old new _ = ⊤
