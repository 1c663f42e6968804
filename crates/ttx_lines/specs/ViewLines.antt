-- The lines of a View (profile).
--
--   low_digit, low_byte, word_text          a word of 32 bits in eight hexadecimal digits, a to f for 10 to 15
--   cell_words              cells as words, each after a space
--   row_line, rows_from     the line of a row, and those of rows one after another
--   view_lines              the lines of the rows, and the line of the links
use Rattle.std.specs.Prelude.{ℕ, ◌+◌, ◌/◌, ◌%◌, List, [], ◌∷◌, ◌++◌, codes, nat_lt, if◌then◌else◌}
use Rattle.std.specs.Fmt.{decimal}
use Rattle.ttx_render.specs.declared.cells.Cell.{Cell}
use Rattle.ttx_render.specs.View.{Screen}
use Rattle.ttx_render.specs.CellWords.{cell_word}
use Rattle.ttx_lines.specs.Texts.{link_ids_text}

-- the digit of a number below 16
abbrev pub low_digit : ℕ → ℕ
low_digit n = if nat_lt n 10 then 48 + n else 87 + n

-- the digits of a byte, the high one first
abbrev pub low_byte : ℕ → List ℕ
low_byte b = low_digit (b / 16) ∷ low_digit (b % 16) ∷ []

-- the digits of a word below 2^32, the highest byte first
unfoldable pub word_text : ℕ → List ℕ
word_text w = low_byte (w / 16777216) ++ low_byte (w / 65536 % 256) ++ low_byte (w / 256 % 256) ++ low_byte (w % 256)

abbrev pub cell_words : List Cell → List ℕ
cell_words [] = []
cell_words (cell ∷ cells) = 32 ∷ word_text (cell_word cell) ++ cell_words cells

-- the row's number, its cells, and 0A
abbrev pub row_line : ℕ → List Cell → List ℕ
row_line number cells = codes "row " ++ decimal number ++ cell_words cells ++ 10 ∷ []

-- the lines of rows, the first of which is row `number`
abbrev pub rows_from : ℕ → List (List Cell) → List ℕ
rows_from number [] = []
rows_from number (cells ∷ rows) = row_line number cells ++ rows_from (number + 1) rows

abbrev pub view_lines : Screen → List ℕ
view_lines view = rows_from 0 view.cells ++ codes "links" ++ link_ids_text view.links ++ 10 ∷ []
