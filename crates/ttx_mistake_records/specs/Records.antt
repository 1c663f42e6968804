-- Errors and warnings about a text as JSON objects (profile): the names and values of the lines of `check --long`.
--
--   line                    the line of an object
--   severity                an error or a warning
--   place_members           one at a place of a file
--   note_members            the place where a key is first given that a text gives twice
--   placed_record, placed_records   the object of an error or a warning; those of several
--   no_members, some_members, many_members      nothing was found, in so many pages; so many; more than are shown
--   count_members           how many were found
--   records_text            the objects of a text: at most 100, and the counts
--   IsRecordOf              the objects of a text in which this was found, and its status
use Rattle.std.specs.Prelude.{◌≡◌, ℕ, Bool, nat_lt, if◌then◌else◌, List, [], ◌∷◌, ◌++◌, codes, length, take, Option, Some, None}
use Rattle.std.specs.Str.Lossy.{utf8_lossy}
use Rattle.ttx_json.specs.Objects.{Member, word, count, object_line}
use Rattle.ttx_places.specs.Positions.{line_after, column_after}
use Rattle.ttx_mistakes.specs.LongLines.{Placed}
use Rattle.ttx_mistakes.specs.LongReports.{errors_in, warnings_in, status}

-- opaque, so that proofs compare members and not texts
unfoldable pub line : List Member → List ℕ
line members = object_line members

abbrev pub severity : Bool → List ℕ
severity error = if error then codes "error" else codes "warning"

-- line and column count from 1, a column for each character
abbrev pub place_members : List ℕ → List ℕ → ℕ → Bool → List ℕ → List Member
place_members file bytes place error words =
    word (codes "file") file ∷ count (codes "line") (line_after (take place bytes)) ∷ count (codes "column") (column_after (take place bytes))
    ∷ word (codes "severity") (severity error) ∷ word (codes "text") words ∷ []

abbrev pub note_members : List ℕ → Option ℕ → List Member
note_members bytes None = []
note_members bytes (Some place) =
    count (codes "note_line") (line_after (take place bytes)) ∷ count (codes "note_column") (column_after (take place bytes)) ∷ []

-- the words as Unicode
unfoldable pub placed_record : List ℕ → List ℕ → Placed → List ℕ
placed_record file bytes p = line (place_members file bytes p.place p.error (utf8_lossy p.words))

abbrev pub placed_records : List ℕ → List ℕ → List Placed → List ℕ
placed_records file bytes [] = []
placed_records file bytes (p ∷ ps) = placed_record file bytes p ++ placed_records file bytes ps

abbrev pub no_members : ℕ → List Member
no_members pages = count (codes "errors") 0 ∷ count (codes "warnings") 0 ∷ count (codes "pages") pages ∷ []

abbrev pub some_members : ℕ → ℕ → List Member
some_members errors warnings = count (codes "errors") errors ∷ count (codes "warnings") warnings ∷ []

abbrev pub many_members : ℕ → ℕ → List Member
many_members errors warnings = some_members errors warnings ++ count (codes "shown") 100 ∷ []

abbrev pub found_members : Bool → List Placed → List Member
found_members many found =
    if many then many_members (errors_in found) (warnings_in found) else some_members (errors_in found) (warnings_in found)

abbrev pub count_members : ℕ → List Placed → List Member
count_members pages [] = no_members pages
count_members pages (p ∷ ps) = found_members (nat_lt 100 (length (p ∷ ps))) (p ∷ ps)

abbrev pub records_text : List ℕ → List ℕ → ℕ → List Placed → List ℕ
records_text file bytes pages found = placed_records file bytes (take 100 found) ++ line (count_members pages found)

abbrev pub IsRecordOf : Bool → List ℕ → List ℕ → ℕ → List Placed → List ℕ → ℕ → Type 0
IsRecordOf strict file bytes pages found text code = (text ≡ records_text file bytes pages found) × (code ≡ status strict found)
