-- The rows of a page as an author writes them: by number, and as the lines of `text`, of which the first is row 1. Index 0 is row 1.
--
--   row_key                 the key of a row
--   lines_in, written_row   the characters of `text`; the part that is a row, and its text
--   put_rows                a table with the codes of rows
--   row_mistakes, rows_mistakes       the mistakes of a row, and of the rows of a page
use Rattle.std.specs.Prelude.{ℕ, ◌+◌, ◌-◌, Bool, not, ◌&&◌, ◌||◌, ◌==◌, List, [], ◌∷◌, ◌++◌, codes, flat_map, slice_index_or}
use Rattle.std.specs.Prelude.{Option, Some, None, option_map, is_some, if◌then◌else◌}
use Rattle.std.specs.List.{range_with_len, list_all}
use Rattle.std.specs.Str.{chars}
use Rattle.toml.specs.Data.{Data, Members, get_member, as_str}
use Rattle.ttx_source.specs.Keys.{row_keys}
use Rattle.ttx_desk.specs.Tables.{text_at, without}
use Rattle.ttx_desk.specs.Lines.{line, rest_after, is_blank}
use Rattle.ttx_desk.specs.Mistakes.{mistake}
use Rattle.ttx_desk.specs.Texts.{text_put, text_mistakes}
use Rattle.ttx_desk.specs.declared.mistakes.Mistake.{Mistake}
use Rattle.ttx_desk.specs.declared.mistakes.Part.{Part}
use Rattle.ttx_desk.specs.declared.mistakes.Part.TheVariants.{Row, Line}
use Rattle.ttx_desk.specs.declared.mistakes.Fault.TheVariants.{Twice, Lines}

abbrev pub row_key : ℕ → List ℕ
row_key index = slice_index_or row_keys index []

abbrev pub characters_of : Option (List ℕ) → List ℕ
characters_of None = []
characters_of (Some text) = chars text

-- the characters of `text`; none if there is no text
abbrev pub lines_in : Members → List ℕ
lines_in rows = characters_of (text_at (codes "text") rows)

abbrev pub by_line : ℕ → List ℕ → Option (Part × List ℕ)
by_line index [] = None
by_line index (c ∷ text) = Some (Line (index + 1), c ∷ text)

abbrev pub by_number : ℕ → Option (List ℕ) → Option (Part × List ℕ)
by_number index None = None
by_number index (Some text) = Some (Row (index + 1), chars text)

-- the value at a row's number comes before a line of `text`
abbrev pub row_from : ℕ → List ℕ → Option Data → Option (Part × List ℕ)
row_from index text None = by_line index text
row_from index text (Some value) = by_number index (as_str value)

unfoldable pub written_row : List ℕ → Members → ℕ → Option (Part × List ℕ)
written_row lines rows index = row_from index (line index lines) (get_member (row_key index) rows)

abbrev pub row_put : ℕ → ℕ → Option (Part × List ℕ) → Members → Members
row_put option index row out = text_put 40 option (row_key index) (option_map (λ r. r.1) row) out

-- the codes of the rows with these indices
unfoldable pub put_rows : ℕ → List ℕ → Members → List ℕ → Members → Members
put_rows option lines rows [] out = out
put_rows option lines rows (index ∷ indices) out =
    put_rows option lines rows indices (row_put option index (written_row lines rows index) out)

-- a row that is given both by its number and in `text`
abbrev pub is_twice : List ℕ → Members → ℕ → Bool
is_twice lines rows index = is_some (get_member (row_key index) rows) && not (is_blank (line index lines))

abbrev pub twice_mistakes : ℕ → ℕ → Bool → List Mistake
twice_mistakes page index twice = if twice then mistake page (Row (index + 1)) 0 Twice ∷ [] else []

abbrev pub part_mistakes : ℕ → ℕ → Option (Part × List ℕ) → List Mistake
part_mistakes page option None = []
part_mistakes page option (Some row) = text_mistakes 40 option page row.0 (Some row.1)

abbrev pub row_mistakes : ℕ → ℕ → List ℕ → Members → ℕ → List Mistake
row_mistakes page option lines rows index =
    twice_mistakes page index (is_twice lines rows index) ++ part_mistakes page option (written_row lines rows index)

-- a space or the end of a line
abbrev pub is_white : ℕ → Bool
is_white c = (c == 32 || c == 10) || c == 13

abbrev pub all_white : List ℕ → Bool
all_white text = list_all is_white text

-- there is something after line 24
abbrev pub is_long : List ℕ → Bool
is_long lines = not (all_white (rest_after 24 lines))

-- the indices of rows from this one on
unfoldable pub indices_from : ℕ → List ℕ
indices_from index = range_with_len index (24 - index)

abbrev pub long_mistakes : ℕ → Bool → List Mistake
long_mistakes page long = if long then mistake page (Line 25) 0 Lines ∷ [] else []

unfoldable pub rows_mistakes : ℕ → ℕ → List ℕ → Members → List Mistake
rows_mistakes page option lines rows =
    flat_map (row_mistakes page option lines rows) (indices_from 0) ++ long_mistakes page (is_long lines)

-- the table of rows by number
unfoldable pub rows_table : ℕ → Members → Members
rows_table option rows = put_rows option (lines_in rows) rows (indices_from 0) (without (codes "text") rows)
