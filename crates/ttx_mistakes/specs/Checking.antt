-- What `check` writes for the text of a service, with its options.
--
--   strict_status           a warning makes status 0 to 1 if warnings count: each report without one begins with `ok`
--   IsReport                the short report or the long one, and its status
use Rattle.std.specs.Prelude.{ℕ, ◌≡◌, Bool, true, false, not, ◌&&◌, ◌==◌, if◌then◌else◌, List, slice_index}
use Rattle.ttx_check.specs.Reports.{IsServiceReport}
use Rattle.ttx_mistakes.specs.LongReports.{IsLongReport}
use Rattle.ttx_mistakes.specs.declared.check_report.Style.{Style}

abbrev pub strict_status : Bool → List ℕ → ℕ → ℕ
strict_status strict text status = if (strict && (status == 0)) && not (slice_index text 0 == 111) then 1 else status

abbrev pub IsShort : Bool → List ℕ → List ℕ → ℕ → Type 0
IsShort strict bytes text status = (plain : ℕ) × IsServiceReport bytes text plain × (status ≡ strict_status strict text plain)

abbrev pub IsReportIn : Bool → Style → List ℕ → List ℕ → ℕ → Type 0
IsReportIn true style bytes text status = IsLongReport style.file.now bytes style.strict text status
IsReportIn false style bytes text status = IsShort style.strict bytes text status

abbrev pub IsReport : Style → List ℕ → List ℕ → ℕ → Type 0
IsReport style bytes text status = IsReportIn style.long style bytes text status
