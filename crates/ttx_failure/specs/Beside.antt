-- Two Views beside each other, as text.
--
--   line_of, after_line     the first line of a text, and what is after it
--   width, padding          how many characters of UTF-8 bytes are, and the spaces up to 40 of them
--   beside_row, beside_rows a row of both; rows of both
--   beside_text             the page as authored beside what is shown, and their links
use Rattle.std.specs.Prelude.{ℕ, ◌+◌, ◌-◌, Bool, false, ◌==◌, nat_lt, if◌then◌else◌, List, [], ◌∷◌, ◌++◌, codes, replicate, slice_index_or}
use Rattle.std.specs.Fmt.{decimal}
use Rattle.std.specs.List.{before_first, after_first}
use Rattle.ttx_digits.specs.Digits.{is_between}
use Rattle.ttx_failure.specs.Unlike.{is_unlike, unlike_links}
use Rattle.ttx_picture.specs.Forms.{picture_of}
use Rattle.ttx_picture.specs.declared.forms.Form.TheVariants.{Text}
use Rattle.ttx_render.specs.View.{Screen}
use Rattle.ttx_render.specs.declared.cells.Cell.{Cell}

abbrev pub line_of : List ℕ → List ℕ
line_of text = before_first (λ b. b == 10) text

abbrev pub after_line : List ℕ → List ℕ
after_line text = after_first (λ b. b == 10) text

-- bytes 80 to BF go on with a character
abbrev pub width : List ℕ → ℕ
width [] = 0
width (b ∷ bytes) = (if is_between 128 191 b then 0 else 1) + width bytes

unfoldable pub padding : List ℕ → List ℕ
padding line = replicate (40 - width line) 32

unfoldable pub mark_text : Bool → List ℕ
mark_text unlike = if unlike then codes "* " else codes "  "

unfoldable pub indent_text : ℕ → List ℕ
indent_text number = if nat_lt number 10 then 32 ∷ [] else []

-- in two places
unfoldable pub number_text : ℕ → List ℕ
number_text number = indent_text number ++ decimal number ++ codes "  "

unfoldable pub both_text : List ℕ → List ℕ → List ℕ
both_text own shown = own ++ padding own ++ codes " | " ++ shown ++ codes "\n"

unfoldable pub beside_row : Bool → ℕ → List ℕ → List ℕ → List ℕ
beside_row unlike number own shown = mark_text unlike ++ number_text number ++ both_text own shown

-- with the texts of the rows that are left
abbrev pub beside_rows : List (List Cell) → ℕ → List (List Cell) → List ℕ → List ℕ → List ℕ
beside_rows own number [] own_text shown_text = []
beside_rows own number (cells ∷ rows) own_text shown_text =
    beside_row (is_unlike number cells (slice_index_or own number [])) number (line_of own_text) (line_of shown_text)
    ++ beside_rows own (number + 1) rows (after_line own_text) (after_line shown_text)

abbrev pub text_after : List (List Cell) → List ℕ → List ℕ
text_after [] text = text
text_after (cells ∷ rows) text = text_after rows (after_line text)

unfoldable pub links_row : Bool → List ℕ → List ℕ → List ℕ
links_row unlike own shown = mark_text unlike ++ codes "    " ++ both_text own shown

unfoldable pub heads_text : List ℕ
heads_text = codes "\n      as authored" ++ replicate 29 32 ++ codes " | as the receiver shows it\n"

unfoldable pub beside_both : Screen → Screen → List ℕ → List ℕ → List ℕ
beside_both shown own own_text shown_text =
    beside_rows own.cells 0 shown.cells own_text shown_text
    ++ links_row (unlike_links shown.links own.links) (line_of (text_after shown.cells own_text)) (line_of (text_after shown.cells shown_text))

unfoldable pub beside_text : Screen → Screen → List ℕ
beside_text shown own = heads_text ++ beside_both shown own (picture_of Text false own) (picture_of Text false shown)
