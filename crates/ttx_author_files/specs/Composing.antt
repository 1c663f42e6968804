-- What `compose` writes for the bytes of an author's text.
--
--   composed_line           the line that says how many pages there are
--   IsComposedFile          the service text, and that line
--   IsServiceLines          the lines about an author's text whose service text is refused: those of `check`
--   IsRefusal               the lines about an author's text that has no service text
--   IsRefusedFile           these lines, and no text
--   IsToldBy                the status, the text and the lines
use Rattle.std.specs.Prelude.{◌≡◌, ◌⊎◌, ℕ, List, [], ◌∷◌, ◌++◌, codes, length, string_bytes, false, Some, Ok, Err}
use Rattle.std.specs.Fmt.{decimal}
use Rattle.toml.specs.Data.{Members}
use Rattle.ttx_author_files.specs.AuthorReports.{IsReportFor}
use Rattle.ttx_desk.specs.Composing.{author_in, BeginsWith, Composes, first_comment}
use Rattle.ttx_desk.specs.MistakeLines.{IsMistakeReport, IsTomlReport}
use Rattle.ttx_desk.specs.declared.composition.Composed.{Composed}
use Rattle.ttx_desk.specs.declared.composition.ComposeFault.{ComposeFault}
use Rattle.ttx_desk.specs.declared.composition.ComposeFault.TheVariants as fault

abbrev pub composed_line : ℕ → List ℕ
composed_line count = codes "composed " ++ decimal count ++ codes " pages" ++ 10 ∷ []

abbrev pub unsaid_line : List ℕ → List ℕ
unsaid_line name = name ++ codes ": error: the service text would be read as another\n"

-- The service text that the author's text means. It begins with the comment that names its source, and the line counts its pages.
pub record IsComposedFile (name bytes text line : List ℕ) : Type 0 where
  pub composed : Composed
  pub answer : Composes (author_in bytes) (Ok composed)
  pub comment : BeginsWith (first_comment name) (string_bytes composed.text)
  pub text_is : text ≡ string_bytes composed.text
  pub line_is : line ≡ composed_line (length composed.service.pages)

abbrev pub IsServiceLines : List ℕ → List ℕ → List ℕ → Type 0
IsServiceLines name bytes lines =
    (author : Members) × (code : ℕ) × (author_in bytes ≡ Some author) × IsReportFor false false name bytes author lines code

-- the lines of all mistakes, or about a text that is no TOML, or that would be read as another
abbrev pub IsRefusal : List ℕ → List ℕ → ComposeFault → List ℕ → Type 0
IsRefusal name bytes fault.NotToml lines = IsTomlReport name bytes lines
IsRefusal name bytes (fault.Mistakes found) lines = IsMistakeReport name bytes found.items lines
IsRefusal name bytes fault.Unsaid lines = lines ≡ unsaid_line name
IsRefusal name bytes (fault.Service error) lines = IsServiceLines name bytes lines
IsRefusal name bytes _ lines = ⊥

-- no text, and the lines about what is wrong
pub record IsRefusedFile (name bytes text lines : List ℕ) : Type 0 where
  pub why : ComposeFault
  pub answer : Composes (author_in bytes) (Err why)
  pub says : IsRefusal name bytes why lines
  pub none : text ≡ []

-- status 0: the service text and its line; status 1: no text, and the lines about what is wrong
abbrev pub IsToldBy : List ℕ → List ℕ → ℕ → List ℕ → List ℕ → Type 0
IsToldBy name bytes status text lines =
    ((status ≡ 0) × IsComposedFile name bytes text lines) ⊎ ((status ≡ 1) × IsRefusedFile name bytes text lines)
