-- What `decompose` writes for the bytes of a service text.
--
--   decomposed_line         the line that says how many pages there are
--   IsDecomposedFile        the author's text, and that line
--   IsUnsaidFile            no text, and the line about a service text that no author's text means
--   IsToldBy                the status, the text and the line
--   IsRefusedService        why there are none
use Rattle.std.specs.Prelude.{◌≡◌, ◌⊎◌, ℕ, List, [], ◌∷◌, ◌++◌, codes, length, string_bytes, Ok, Err}
use Rattle.std.specs.Fmt.{decimal}
use Rattle.ttx_source.specs.declared.faults.SourceError.{SourceError}
use Rattle.ttx_desk.specs.Composing.{BeginsWith}
use Rattle.ttx_desk.specs.Decomposing.{Decomposes, first_lines}
use Rattle.ttx_desk.specs.declared.decomposition.Decomposed.{Decomposed}
use Rattle.ttx_desk.specs.declared.decomposition.DecomposeFault.TheVariants as fault

abbrev pub decomposed_line : ℕ → List ℕ
decomposed_line count = codes "decomposed " ++ decimal count ++ codes " pages" ++ 10 ∷ []

abbrev pub unsaid_line : List ℕ → List ℕ
unsaid_line name = name ++ codes ": error: this cannot be written as an author's text; a key author stands only in authors' texts\n"

-- The author's text that means the service text. It begins with the comment that names its source, and the line counts its pages.
pub record IsDecomposedFile (name bytes text line : List ℕ) : Type 0 where
  pub decomposed : Decomposed
  pub answer : Decomposes bytes (Ok decomposed)
  pub begins : BeginsWith (first_lines name) (string_bytes decomposed.text)
  pub text_is : text ≡ string_bytes decomposed.text
  pub line_is : line ≡ decomposed_line (length decomposed.service.pages)

-- no text, and the line about a service text of which no author's text was found that means it
pub record IsUnsaidFile (name bytes text line : List ℕ) : Type 0 where
  pub answer : Decomposes bytes (Err fault.Unsaid)
  pub line_is : line ≡ unsaid_line name
  pub none : text ≡ []

-- status 0: the author's text and its line; status 1: no text, and the line about what is wrong
abbrev pub IsToldBy : List ℕ → List ℕ → ℕ → List ℕ → List ℕ → Type 0
IsToldBy name bytes status text line =
    ((status ≡ 0) × IsDecomposedFile name bytes text line) ⊎ ((status ≡ 1) × IsUnsaidFile name bytes text line)

-- the service text is refused
abbrev pub IsRefusedService : List ℕ → SourceError → Type 0
IsRefusedService bytes error = Decomposes bytes (Err (fault.Service error))
