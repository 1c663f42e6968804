-- What `check` writes for the text of a service or of an author.
--
--   IsReport, Checks        the report on a text, by its first key; what was written for each answer
use Rattle.std.specs.Prelude.{ℕ, Bool, true, false, List, Option, Result}
use Rattle.ttx_check.specs.Checking as check
use Rattle.ttx_files.specs.declared.faults.FilesFault.{FilesFault}
use Rattle.ttx_mistakes.specs.Checking as service
use Rattle.ttx_mistakes.specs.declared.check_report.Style.{Style}
use Rattle.ttx_author_files.specs.AuthorReports.{IsAuthorReport}
use Rattle.ttx_author_files.specs.AuthorTexts.{is_author_text}

abbrev pub IsReportBy : Bool → Style → List ℕ → List ℕ → ℕ → Type 0
IsReportBy true style bytes report code = IsAuthorReport style bytes report code
IsReportBy false style bytes report code = service.IsReport style bytes report code

abbrev pub IsReport : Style → List ℕ → List ℕ → ℕ → Type 0
IsReport style bytes report code = IsReportBy (is_author_text bytes) style bytes report code

abbrev pub Checks : Style → List ℕ → Option (List ℕ) → Option (List ℕ) → Result ℕ FilesFault → Type 0
Checks style = check.Checks (IsReport style)
