-- The long report on a service text (profile).
--
--   notes_of                all errors, then the warnings about keys, then, where the text reads as a service, those about the service
--   summary, report_text    the last line; the whole report: at most 100 notes
--   status                  2 if there is an error, 1 if a warning counts as strict, otherwise 0
--   IsReportOf              the report on a text in which this was found, and its status
--   given_first, IsTomlMistake  why a text is not a TOML document, with both places of a key that is given twice
--   IsTomlReport            the report on such a text
--   IsLongReport            the report on a text, and its status
use Rattle.std.specs.Prelude.{◌≡◌, ℕ, ◌≤◌, Bool, true, not, ◌&&◌, ◌==◌, nat_lt, count_by, if◌then◌else◌, List, [], ◌∷◌, ◌++◌, codes, length, map, take, Option, Some, None, Result, Ok, Err}
use Rattle.std.specs.Fmt.{decimal}
use Rattle.std.specs.List.{list_any}
use Rattle.std.specs.Str.{bytes_eq, is_utf8}
use Rattle.toml.specs.Data.{Members, get_member}
use Rattle.ttx_source.specs.Documents.{document_of}
use Rattle.ttx_source.specs.Keys.{count}
use Rattle.ttx_source.specs.Promises.{PromiseFields, promises_of}
use Rattle.ttx_source.specs.Services.{ServiceFields, service_of}
use Rattle.ttx_source.specs.Values.{Fault}
use Rattle.ttx_check.specs.Parts.{items_in}
use Rattle.ttx_mistakes.specs.FirstKeys.{first_place}
use Rattle.ttx_mistakes.specs.KeyNotes.{key_notes}
use Rattle.ttx_mistakes.specs.LongLines.{Placed, first_lines, lines_at, placed, placed_texts}
use Rattle.ttx_mistakes.specs.Mistakes.{mistakes}
use Rattle.ttx_mistakes.specs.Notes.{Note, error_notes}
use Rattle.ttx_mistakes.specs.StayNotes.{stay_notes}
use Rattle.ttx_mistakes.specs.WarningNotes.{warning_notes}

abbrev pub stayed_notes : ServiceFields → Result (List PromiseFields) (Fault × ℕ) → List Note
stayed_notes service (Err fault) = []
stayed_notes service (Ok stays) = stay_notes service stays

abbrev pub service_notes : Result ServiceFields (Fault × ℕ) → Members → List Note
service_notes (Err fault) table = []
service_notes (Ok service) table = warning_notes service ++ stayed_notes service (promises_of (codes "stays") table)

unfoldable pub notes_of : Members → List Note
notes_of table = error_notes table (mistakes table) ++ key_notes table ++ service_notes (service_of table) table

abbrev pub counted : ℕ → List ℕ → List ℕ
counted n word = decimal n ++ word ++ (if n == 1 then [] else codes "s")

abbrev pub errors_in : List Placed → ℕ
errors_in found = count_by (λ p. p.error) found

abbrev pub warnings_in : List Placed → ℕ
warnings_in found = count_by (λ p. not p.error) found

abbrev pub rest_text : List Placed → List ℕ
rest_text found = if nat_lt 100 (length found) then codes "; the first 100 are shown" else []

unfoldable pub summary : List Placed → List ℕ
summary found =
    counted (errors_in found) (codes " error") ++ codes ", " ++ counted (warnings_in found) (codes " warning") ++ rest_text found ++ 10 ∷ []

abbrev pub pages_in : Members → ℕ
pages_in table = count (items_in (get_member (codes "page") table))

abbrev pub report_text : Bool → List ℕ → List ℕ → ℕ → List Placed → List ℕ
report_text long file bytes pages [] = codes "ok pages " ++ decimal pages ++ 10 ∷ []
report_text long file bytes pages (p ∷ found) = placed_texts long file bytes (take 100 (p ∷ found)) ++ summary (p ∷ found)

abbrev pub status : Bool → List Placed → ℕ
status strict found =
    if list_any (λ p. p.error) found then 2 else if strict && nat_lt 0 (length found) then 1 else 0

-- the report on a text with so many pages in which this was found, in the short or the long form, and its status
abbrev pub IsReportOf : Bool → Bool → List ℕ → List ℕ → ℕ → List Placed → List ℕ → ℕ → Type 0
IsReportOf long strict file bytes pages found text code = (text ≡ report_text long file bytes pages found) × (code ≡ status strict found)

abbrev pub first_in : List ℕ → ℕ → Option ℕ
first_in bytes place = if is_utf8 bytes then first_place bytes place else None

-- the place where the key at a place is first given, if the TOML reader says of it that it is given twice
abbrev pub given_first : List ℕ → ℕ → List ℕ → Option ℕ
given_first bytes place words = if bytes_eq words (codes "duplicate key") then first_in bytes place else None

-- the words behind the colon are those of the TOML reader
pub record IsTomlMistake (bytes : List ℕ) (place : ℕ) (words : List ℕ) (first : Option ℕ) : Type 0 where
  pub reason : List ℕ
  pub within : place ≤ length bytes
  pub words_are : words ≡ codes "this isn't TOML: " ++ reason
  pub first_is : first ≡ given_first bytes place reason

pub record IsTomlReport (file bytes : List ℕ) (text : List ℕ) : Type 0 where
  pub place : ℕ
  pub words : List ℕ
  pub first : Option ℕ
  pub mistake : IsTomlMistake bytes place words first
  pub says : text ≡ lines_at file bytes place true words ++ first_lines file bytes first ++ codes "1 error, 0 warnings" ++ 10 ∷ []

abbrev pub IsTableReport : List ℕ → List ℕ → Bool → Members → List ℕ → ℕ → Type 0
IsTableReport file bytes strict table text code =
    IsReportOf true strict file bytes (pages_in table) (map (placed bytes) (notes_of table)) text code

abbrev pub IsReportBy : List ℕ → List ℕ → Bool → Option Members → List ℕ → ℕ → Type 0
IsReportBy file bytes strict None text code = IsTomlReport file bytes text × (code ≡ 2)
IsReportBy file bytes strict (Some table) text code = IsTableReport file bytes strict table text code

abbrev pub IsLongReport : List ℕ → List ℕ → Bool → List ℕ → ℕ → Type 0
IsLongReport file bytes strict text code = IsReportBy file bytes strict (document_of bytes) text code
