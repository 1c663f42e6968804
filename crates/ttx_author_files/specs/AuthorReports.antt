-- The report on an author's text: the mistakes for which it is not composed, then the errors and warnings of `check`.
--
--   IsPlacedMistake, ArePlaced  a mistake for which an author's text is not composed, at its place; all of them
--   IsReportOn              the report on an author's text with this table, and its status
--   IsAuthorReport          the same for the text of a file
use Rattle.std.specs.Prelude.{◌≡◌, ℕ, Bool, true, List, [], ◌∷◌, ◌++◌, Some}
use Rattle.toml.specs.Data.{Members}
use Rattle.ttx_desk.specs.Composing.{author_in}
use Rattle.ttx_desk.specs.Places.{IsPlace}
use Rattle.ttx_desk.specs.Services.{mistakes}
use Rattle.ttx_desk.specs.Words.{IsFaultWords}
use Rattle.ttx_desk.specs.declared.mistakes.Mistake.{Mistake}
use Rattle.ttx_mistakes.specs.LongLines.{Placed}
use Rattle.ttx_mistakes.specs.LongReports.{IsReportOf, pages_in}
use Rattle.ttx_mistakes.specs.declared.check_report.Style.{Style}
use Rattle.ttx_author_files.specs.AuthorNotes.{author_placed}

pub record IsPlacedMistake (text : List ℕ) (author : Members) (mistake : Mistake) (p : Placed) : Type 0 where
  pub error : p.error ≡ true
  pub stands : IsPlace text mistake p.place
  pub says : IsFaultWords author mistake p.words

abbrev pub ArePlaced : List ℕ → Members → List Mistake → List Placed → Type 0
ArePlaced text author [] found = found ≡ []
ArePlaced text author (mistake ∷ mistakes) found =
    (p : Placed) × (rest : List Placed) × IsPlacedMistake text author mistake p × ArePlaced text author mistakes rest × (found ≡ p ∷ rest)

-- at length or shortly, with the name of the file
pub record IsReportFor (long strict : Bool) (file text : List ℕ) (author : Members) (report : List ℕ) (code : ℕ) : Type 0 where
  pub told : List Placed
  pub each : ArePlaced text author (mistakes author) told
  pub is : IsReportOf long strict file text (pages_in author) (told ++ author_placed text author) report code

abbrev pub IsReportOn : Style → List ℕ → Members → List ℕ → ℕ → Type 0
IsReportOn style text author report code = IsReportFor style.long style.strict style.file.now text author report code

abbrev pub IsAuthorReport : Style → List ℕ → List ℕ → ℕ → Type 0
IsAuthorReport style text report code = (author : Members) × (author_in text ≡ Some author) × IsReportOn style text author report code
