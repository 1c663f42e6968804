-- The View of a memory: 25 rows of 40 cells, with rows that are hidden or not shown, and its links.
--
--   is_shown, codes_of      the codes that a row shows
--   has_boxes               whether cells outside a box show the picture
--   own_cells               the cells of a row from its own codes
--   is_below, lower         rows hidden below double height, and what they show
--   view_row                a row of the View
--   Screen, view_of         the type of a View, and the View of a memory
use Rattle.std.specs.Prelude.{ℕ, ◌-◌, Bool, not, ◌&&◌, ◌||◌, ◌==◌, if◌then◌else◌, List, [], ◌++◌, replicate, drop, map, slice_index_or}
use Rattle.std.specs.List.{range_with_len}
use Rattle.ttx_header.specs.Control.{c7, c10, c5, c6, option_of}
use Rattle.ttx_page.specs.Memories.{Memory}
use Rattle.ttx_page.specs.Pages.{is_tall, is_hidden}
use Rattle.ttx_render.specs.declared.cells.Glyph.TheVariants.{Char}
use Rattle.ttx_render.specs.declared.cells.Part.{Part}
use Rattle.ttx_render.specs.declared.cells.Part.TheVariants.{Upper, Lower}
use Rattle.ttx_render.specs.declared.cells.Cell.{Cell}
use Rattle.ttx_render.specs.declared.view.View.{View}
use Rattle.ttx_render.specs.Cells.{cells_to}

-- row 0 without C7, rows 1 to 24 without C10, row 24 only with show24
abbrev pub is_shown : Memory → ℕ → Bool
is_shown m number = if number == 0 then not (c7 m.control) else not (c10 m.control) && (not (number == 24) || m.links.show24)

-- the codes that a row shows: spaces if the row is not shown, and in columns 0 to 7 of row 0
unfoldable pub codes_of : Memory → ℕ → List ℕ
codes_of m number =
    let row = slice_index_or m.rows number [] in
    if not (is_shown m number) then replicate 40 0x20
    else if number == 0 then replicate 8 0x20 ++ drop 8 row
    else row

-- in a newsflash (C5) or a subtitle (C6), cells outside a box show the picture
abbrev pub has_boxes : ℕ → Bool
has_boxes control = c5 control || c6 control

unfoldable pub own_cells : Memory → ℕ → List Cell
own_cells m number = cells_to (is_tall number) (codes_of m number) 40 (option_of m.control) (has_boxes m.control)

-- whether double height in the row above hides this row
abbrev pub is_below : Memory → ℕ → Bool
is_below m number = is_hidden (codes_of m) number

abbrev pub lower_at : Part → Cell → Cell
lower_at Upper cell = record cell { part = Lower }
lower_at _ cell = record cell { glyph = Char 0x20 }

-- below an upper half its lower half, below any other cell a space in the same attributes (profile)
abbrev pub lower : Cell → Cell
lower cell = lower_at cell.part cell

unfoldable pub view_row : Memory → ℕ → List Cell
view_row m number = if is_below m number then map lower (own_cells m (number - 1)) else own_cells m number

-- the first n rows
unfoldable pub rows_to : Memory → ℕ → List (List Cell)
rows_to m n = map (λ number. view_row m number) (range_with_len 0 n)

-- 25 rows of cells, and six links
abbrev pub Screen : Type 0
Screen = View (List (List Cell))

abbrev pub view_of : Memory → Screen
view_of m = record { cells = rows_to m 25; links = m.links.six }
