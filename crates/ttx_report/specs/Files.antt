-- What a report says of its inputs, of the program and of its date.
--
--   Marks, marks_of, marks_view     the SHA-256 of the inputs; those of three files; those of a value of the program
--   file_row, file_rows     a row of a table; the rows of the inputs
--   files_html              the sizes of the inputs and their SHA-256
--   version_html, date_html the program that made it, and the date, if one is given
use Rattle.std.specs.Prelude.{ℕ, List, [], ◌++◌, codes, length, Option, Some, None}
use Rattle.std.specs.Fmt.{decimal}
use Rattle.hex.specs.Hex.{encode_lower}
use Rattle.sha2.specs.Sha256.{sha256}
use Rattle.ttx_document.specs.Escapes.{escaped_text}
use Rattle.ttx_document.specs.Frames.{heading_html}
use Rattle.ttx_report.specs.declared.marks.Marks.{Marks as MarksValue}

pub record Marks : Type 0 where
  pub cycle : List ℕ
  pub service : List ℕ
  pub certificate : List ℕ

abbrev pub marks_of : List ℕ → List ℕ → List ℕ → Marks
marks_of cycle service certificate = record { cycle = sha256 cycle; service = sha256 service; certificate = sha256 certificate }

-- the same for a value of the program
abbrev pub marks_view : MarksValue → Marks
marks_view m = record { cycle = m.cycle; service = m.service; certificate = m.certificate }

unfoldable pub size_cell : ℕ → List ℕ → List ℕ
size_cell count unit = codes "</td><td>" ++ unit ++ decimal count ++ codes "</td><td><code>"

unfoldable pub file_row : List ℕ → ℕ → List ℕ → List ℕ → List ℕ
file_row name count unit digest =
    codes "<tr><td>" ++ name ++ size_cell count unit ++ encode_lower digest ++ codes "</code></td></tr>\n"

unfoldable pub files_start : List ℕ
files_start = codes "<table><tr><th>Input</th><th>Has</th><th>SHA-256</th></tr>\n"

unfoldable pub file_rows : ℕ → ℕ → ℕ → Marks → List ℕ
file_rows slots pages entries marks =
    file_row (codes "packet file") slots (codes "slots: ") marks.cycle ++ file_row (codes "service text") pages (codes "pages: ") marks.service
    ++ file_row (codes "certificate") entries (codes "entries: ") marks.certificate

unfoldable pub files_html : ℕ → ℕ → ℕ → Marks → List ℕ
files_html slots pages entries marks =
    heading_html (codes "Inputs") ++ files_start ++ file_rows slots pages entries marks ++ codes "</table>\n"

-- the lines of `version`
unfoldable pub version_html : List ℕ → List ℕ
version_html version = heading_html (codes "Made by") ++ codes "<pre>" ++ version ++ codes "</pre>\n"

-- as it is given
unfoldable pub date_html : Option (List ℕ) → List ℕ
date_html None = []
date_html (Some date) = codes "<p>" ++ escaped_text date ++ codes "</p>\n"
