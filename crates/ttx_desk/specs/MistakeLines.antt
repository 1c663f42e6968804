-- The lines of mistakes.
--
--   place_words             `FILE:LINE:COLUMN: error: `, the beginning of a line
--   IsMistakeLine, AreMistakeLines    the line of a mistake, and those of a list
--   count_line              how many there are
--   IsReport, IsMistakeReport   the lines of mistakes, and their number
--   IsTomlReport            the same for a text that is not TOML
use Rattle.std.specs.Prelude.{◌≡◌, ◌≤◌, ℕ, List, [], ◌∷◌, ◌++◌, codes, length, take, ◌==◌, if◌then◌else◌, Some}
use Rattle.std.specs.Fmt.{decimal}
use Rattle.toml.specs.Data.{Members}
use Rattle.ttx_places.specs.Positions.{line_after, column_after}
use Rattle.ttx_desk.specs.Composing.{author_in}
use Rattle.ttx_desk.specs.Places.{IsPlace}
use Rattle.ttx_desk.specs.Words.{IsFaultWords}
use Rattle.ttx_desk.specs.declared.mistakes.Mistake.{Mistake}

-- the file, then line and column of a place in its text, both from 1, a column for each character
abbrev pub place_words : List ℕ → List ℕ → ℕ → List ℕ
place_words file text place =
    file ++ codes ":" ++ decimal (line_after (take place text)) ++ codes ":" ++ decimal (column_after (take place text)) ++ codes ": error: "

pub record IsMistakeLine (file text : List ℕ) (author : Members) (mistake : Mistake) (line : List ℕ) : Type 0 where
  pub place : ℕ
  pub words : List ℕ
  pub stands : IsPlace text mistake place
  pub says : IsFaultWords author mistake words
  pub is : line ≡ place_words file text place ++ words ++ 10 ∷ []

-- a line for each mistake, in order
abbrev pub AreMistakeLines : List ℕ → List ℕ → Members → List Mistake → List ℕ → Type 0
AreMistakeLines file text author [] lines = lines ≡ []
AreMistakeLines file text author (mistake ∷ mistakes) lines =
    (line rest : List ℕ) × IsMistakeLine file text author mistake line × AreMistakeLines file text author mistakes rest × (lines ≡ line ++ rest)

abbrev pub count_line : ℕ → List ℕ
count_line count = decimal count ++ (if count == 1 then codes " mistake\n" else codes " mistakes\n")

-- the lines of the first hundred mistakes, and how many there are
pub record IsReport (file text : List ℕ) (author : Members) (mistakes : List Mistake) (report : List ℕ) : Type 0 where
  pub lines : List ℕ
  pub each : AreMistakeLines file text author (take 100 mistakes) lines
  pub is : report ≡ lines ++ count_line (length mistakes)

-- the same for the text of a file
abbrev pub IsMistakeReport : List ℕ → List ℕ → List Mistake → List ℕ → Type 0
IsMistakeReport file text mistakes report = (author : Members) × (author_in text ≡ Some author) × IsReport file text author mistakes report

abbrev pub toml_words : List ℕ → List ℕ
toml_words words = codes "this is not TOML: " ++ words ++ codes "\n1 mistake\n"

-- a text that is not TOML: a place in it, and the words of the TOML reader
pub record IsTomlReport (file text report : List ℕ) : Type 0 where
  pub place : ℕ
  pub words : List ℕ
  pub within : place ≤ length text
  pub is : report ≡ place_words file text place ++ toml_words words
