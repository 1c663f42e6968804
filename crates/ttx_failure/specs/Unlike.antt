-- The differences between what is shown and the page as it was authored.
--
--   compared, unlike_cells, is_unlike    the cells of a row that are compared; whether some differ; the same for row `number`
--   same_link, unlike_links links that differ
--   unlike_numbers          the names of the rows that differ
--   unlike_text             which rows differ, and whether the links do
use Rattle.std.specs.Prelude.{ℕ, ◌+◌, Bool, true, false, not, ◌&&◌, ◌||◌, ◌==◌, if◌then◌else◌, List, [], ◌∷◌, ◌++◌, codes, take, drop, slice_index_or}
use Rattle.std.specs.Prelude.{Option, Some, None}
use Rattle.std.specs.Fmt.{decimal}
use Rattle.ttx_header.specs.Ids.{Id, same_id}
use Rattle.ttx_render.specs.CellWords.{cell_word}
use Rattle.ttx_render.specs.View.{Screen}
use Rattle.ttx_render.specs.declared.cells.Cell.{Cell}

-- columns 8 to 31 of row 0, and all of another
abbrev pub compared : ℕ → List Cell → List Cell
compared number cells = if number == 0 then take 24 (drop 8 cells) else cells

abbrev pub unlike_cells : List Cell → List Cell → Bool
unlike_cells [] own = false
unlike_cells (cell ∷ cells) [] = true
unlike_cells (cell ∷ cells) (one ∷ own) = not (cell_word cell == cell_word one) || unlike_cells cells own

unfoldable pub is_unlike : ℕ → List Cell → List Cell → Bool
is_unlike number shown own = unlike_cells (compared number shown) (compared number own)

abbrev pub same_link : Option Id → Option Id → Bool
same_link None None = true
same_link (Some a) (Some b) = same_id a b
same_link _ _ = false

abbrev pub unlike_links : List (Option Id) → List (Option Id) → Bool
unlike_links [] own = false
unlike_links (link ∷ links) [] = true
unlike_links (link ∷ links) (one ∷ own) = not (same_link link one) || unlike_links links own

unfoldable pub number_if : Bool → ℕ → List ℕ
number_if unlike number = if unlike then codes " row " ++ decimal number ++ codes "," else []

-- rows as they are shown, the first of which is row `number`
abbrev pub unlike_numbers : List (List Cell) → ℕ → List (List Cell) → List ℕ
unlike_numbers own number [] = []
unlike_numbers own number (cells ∷ rows) =
    number_if (is_unlike number cells (slice_index_or own number [])) number ++ unlike_numbers own (number + 1) rows

unfoldable pub links_words : Bool → List ℕ
links_words unlike = if unlike then codes " links," else []

unfoldable pub unlike_text : Screen → Screen → List ℕ
unlike_text shown own =
    codes "It shows otherwise:" ++ unlike_numbers own.cells 0 shown.cells ++ links_words (unlike_links shown.links own.links)
    ++ codes " as marked below."
