-- The report on a service text.
--
--   lines_or_count, report    the report on an accepted text: its lines, or the number of pages if there are none
--   IsRead, IsStayReport, IsPromiseReport, IsServiceReport      the report on a text, and its status
use Rattle.std.specs.Prelude.{◌≡◌, ℕ, List, [], ◌∷◌, ◌++◌, codes, length, Some, Result, Ok, Err}
use Rattle.std.specs.Fmt.{decimal}
use Rattle.toml.specs.Data.{Members}
use Rattle.toml.specs.Parse.{parse_document}
use Rattle.ttx_source.specs.Promises.{PromiseFields, read_promises, read_stays}
use Rattle.ttx_source.specs.Services.{ServiceFields, pages_of, read_bytes}
use Rattle.ttx_source.specs.Values.{Fault}
use Rattle.ttx_stays.specs.StayWarnings.{stay_warnings}
use Rattle.ttx_check.specs.Refusals.{IsErrorLine}
use Rattle.ttx_check.specs.UnknownKeys.{key_lines}
use Rattle.ttx_check.specs.WarningLines.{warning_lines}
use Rattle.ttx_check.specs.Warnings.{warnings}

-- the lines; if there are none, a line with the number of pages
abbrev pub lines_or_count : ℕ → List ℕ → List ℕ
lines_or_count count [] = codes "ok pages " ++ decimal count ++ 10 ∷ []
lines_or_count count (c ∷ lines) = c ∷ lines

abbrev pub report : Members → ServiceFields → List PromiseFields → List ℕ
report table service stays =
    lines_or_count (length service.pages)
    ((key_lines table (pages_of service) ++ warning_lines (warnings service)) ++ stay_warnings service stays)

-- the report on an accepted text, from its service, its stays and its table
pub record IsRead (bytes : List ℕ) (service : ServiceFields) (stays : List PromiseFields) (text : List ℕ) : Type 0 where
  pub table : Members
  pub parsed : parse_document bytes ≡ Some table
  pub says : text ≡ report table service stays

-- the text of an accepted service with accepted promises, whose stays are accepted or refused
abbrev pub IsStayReport : List ℕ → ServiceFields → Result (List PromiseFields) (Fault × ℕ) → List ℕ → ℕ → Type 0
IsStayReport bytes service (Ok stays) text status = IsRead bytes service stays text × (status ≡ 0)
IsStayReport bytes service (Err fault) text status = IsErrorLine bytes fault.0 fault.1 text × (status ≡ 2)

-- the text of an accepted service, whose promises are accepted or refused
abbrev pub IsPromiseReport : List ℕ → ServiceFields → Result (List PromiseFields) (Fault × ℕ) → List ℕ → ℕ → Type 0
IsPromiseReport bytes service (Ok promises) text status = IsStayReport bytes service (read_stays bytes) text status
IsPromiseReport bytes service (Err fault) text status = IsErrorLine bytes fault.0 fault.1 text × (status ≡ 2)

-- the status is 0 if the text is accepted, and 2 if it is refused
abbrev pub IsReportOf : List ℕ → Result ServiceFields (Fault × ℕ) → List ℕ → ℕ → Type 0
IsReportOf bytes (Ok service) text status = IsPromiseReport bytes service (read_promises bytes) text status
IsReportOf bytes (Err fault) text status = IsErrorLine bytes fault.0 fault.1 text × (status ≡ 2)

abbrev pub IsServiceReport : List ℕ → List ℕ → ℕ → Type 0
IsServiceReport bytes text status = IsReportOf bytes (read_bytes bytes) text status
