-- The meaning of an author's row: the codes of its marks, cell by cell, or the first mark that has none.
--
--   mode_after              the mode that a code leaves
--   why_not, code_at        the code of a mark in this mode, or why it has none
--   codes_of                the codes of marks
--   continued, continued_line       the same after codes that are there already
--   filled, line_of         the same filled with spaces; the meaning of a text
use Rattle.std.specs.Prelude.{ℕ, zero, suc, ◌-◌, Bool, false, not, List, [], ◌∷◌, ◌++◌, Option, Some, None, Result, Ok, Err, if◌then◌else◌}
use Rattle.std.specs.Prelude.{length, replicate, is_some}
use Rattle.arrayvec.specs.ArrayVec.{array_vec_len}
use Rattle.ttx_render.specs.Spacing.{spacing_of, on_mosaic}
use Rattle.ttx_render.specs.Attributes.{value_after}
use Rattle.ttx_author.specs.declared.marks.Mark.{Mark}
use Rattle.ttx_author.specs.declared.marks.Mark.TheVariants.{Sign, Control, Stray}
use Rattle.ttx_author.specs.declared.rows.Why.{Why}
use Rattle.ttx_author.specs.declared.rows.Why.TheVariants.{Character, Letter, Mosaic, Tag, Room}
use Rattle.ttx_author.specs.declared.rows.Lack.{Lack}
use Rattle.ttx_author.specs.declared.rows.Line.{Line}
use Rattle.ttx_author.specs.Signs.{code_of}
use Rattle.ttx_author.specs.Marks.{Placed, marks_of}

infixl 10 ◌>>=◌
abbrev pub ◌>>=◌ : {A B : Type 0} → Result A Lack → (A → Result B Lack) → Result B Lack
Ok a >>= f = f a
Err e >>= f = Err e

-- mosaic mode (true) or not after a code, as the display has it: colours of mosaics begin it, colours of letters end it
abbrev pub mode_after : ℕ → Bool → Bool
mode_after code mosaic = value_after (on_mosaic (spacing_of code)) mosaic

-- why no code shows a character in this mode: the option has it in the other mode only, or not at all
abbrev pub why_not : ℕ → Bool → ℕ → Why
why_not option mosaic character =
    if is_some (code_of (not mosaic) option character) then (if mosaic then Letter else Mosaic) else Character

abbrev pub lack_at : ℕ → Why → Lack
lack_at place why = record { place = place; why = why }

abbrev pub shown_by : Lack → Option ℕ → Result ℕ Lack
shown_by lack None = Err lack
shown_by lack (Some code) = Ok code

-- the code of a mark: a character is shown by it, a control code is itself
abbrev pub code_at : ℕ → Bool → ℕ → Mark → Result ℕ Lack
code_at option mosaic place (Sign character) = shown_by (lack_at place (why_not option mosaic character)) (code_of mosaic option character)
code_at option mosaic place (Control code) = Ok code
code_at option mosaic place Stray = Err (lack_at place Tag)

-- the codes of marks under an option, from a mode on, in this number of cells
unfoldable pub codes_of : ℕ → Bool → ℕ → List Placed → Result (List ℕ) Lack
codes_of option mosaic room [] = Ok []
codes_of option mosaic zero (m ∷ ms) = Err (lack_at m.place Room)
codes_of option mosaic (suc room) (m ∷ ms) = do
  code ← code_at option mosaic m.place m.mark
  codes ← codes_of option (mode_after code mosaic) room ms
  Ok (code ∷ codes)

-- the same after codes that are there already
abbrev pub continued : ℕ → Bool → ℕ → List ℕ → List Placed → Result (List ℕ) Lack
continued option mosaic room front marks = codes_of option mosaic room marks >>= (λ codes. Ok (front ++ codes))

-- the codes of a line that are there already, and those of the marks that follow
abbrev pub continued_line : ℕ → ℕ → Line → List Placed → Result (List ℕ) Lack
continued_line width option line marks = continued option line.mosaic (width - array_vec_len line.codes) line.codes.items marks

-- the codes, filled with spaces
abbrev pub filled : ℕ → List ℕ → List ℕ
filled width codes = codes ++ replicate (width - length codes) 0x20

-- what a text means in this number of cells
abbrev pub line_of : ℕ → ℕ → List ℕ → Result (List ℕ) Lack
line_of width option text = codes_of option false width (marks_of text) >>= (λ codes. Ok (filled width codes))
