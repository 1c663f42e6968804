-- The differences of two Views, in lines (profile).
--
--   compared                the cells of a row that are compared
--   unlike_row, unlike_rows the lines of a row, and of rows, of both Views where they differ
--   both_links, unlike_links    those of the links
--   unlike_lines            all that differs
use Rattle.std.specs.Prelude.{ℕ, ◌+◌, ◌==◌, List, [], ◌∷◌, ◌++◌, codes, take, drop, slice_index_or, Option, if◌then◌else◌}
use Rattle.std.specs.Str.{bytes_eq}
use Rattle.ttx_header.specs.Ids.{Id}
use Rattle.ttx_render.specs.declared.cells.Cell.{Cell}
use Rattle.ttx_render.specs.View.{Screen}
use Rattle.ttx_lines.specs.Texts.{link_ids_text}
use Rattle.ttx_lines.specs.ViewLines.{cell_words, row_line}

-- columns 8 to 31 of row 0, and all of another
abbrev pub compared : ℕ → List Cell → List Cell
compared number cells = if number == 0 then take 24 (drop 8 cells) else cells

-- the line of a row as it is shown, and as the page has it
abbrev pub both_rows : ℕ → List Cell → List Cell → List ℕ
both_rows number shown own = codes "shown " ++ row_line number shown ++ codes "page " ++ row_line number own

-- where the words of the cells that are compared differ
unfoldable pub unlike_row : ℕ → List Cell → List Cell → List ℕ
unlike_row number shown own =
    if bytes_eq (cell_words (compared number shown)) (cell_words (compared number own)) then [] else both_rows number shown own

-- rows as they are shown, the first of which is row `number`
abbrev pub unlike_rows : List (List Cell) → ℕ → List (List Cell) → List ℕ
unlike_rows own number [] = []
unlike_rows own number (cells ∷ rows) = unlike_row number cells (slice_index_or own number []) ++ unlike_rows own (number + 1) rows

-- the links as they are shown, and as the page has them
abbrev pub both_links : List ℕ → List ℕ → List ℕ
both_links shown own = codes "shown links" ++ shown ++ 10 ∷ codes "page links" ++ own ++ 10 ∷ []

-- where they differ
unfoldable pub unlike_links : List (Option Id) → List (Option Id) → List ℕ
unlike_links shown own =
    if bytes_eq (link_ids_text shown) (link_ids_text own) then [] else both_links (link_ids_text shown) (link_ids_text own)

abbrev pub unlike_lines : Screen → Screen → List ℕ
unlike_lines shown own = unlike_rows own.cells 0 shown.cells ++ unlike_links shown.links own.links
