-- The cells of a View that show the codes of their own row.
use Rattle.std.proofs.Common.{◌≡◌, ◌∙◌, ℕ, suc, ◌<◌, Bool, false, List, [], ◌++◌, drop, replicate, get_or, ap, arith, ◌==◌, true}
use Rattle.std.proofs.Math.Dec.{eqb-suc-zero}
use Rattle.std.proofs.lemmas.List.FromFn.{get_or-map-range_with_len}
use Rattle.ttx_header.specs.Control.{option_of}
use Rattle.ttx_page.specs.Memories.{Memory, memory_row}
use Rattle.ttx_page.specs.Pages.{is_tall}
use Rattle.ttx_render.specs.declared.cells.Cell.{Cell}
use Rattle.ttx_render.specs.Cells.{cell_at, cells_to, space_cell}
use Rattle.ttx_render.specs.Comparison.{cell_in}
use Rattle.ttx_render.specs.Laws.{IsOwn}
use Rattle.ttx_render.specs.View.{view_of, view_row, rows_to, own_cells, codes_of, has_boxes, is_below, is_shown}

rows_to-at : (m : Memory) (n r : ℕ) (d : List Cell) → r < n → get_or (rows_to m n) r d ≡ view_row m r
unfolding rows_to
rows_to-at m n r d l = get_or-map-range_with_len (λ number. view_row m number) 0 n r r d l (omega arith)

view_row-own : (m : Memory) (n : ℕ) → is_below m n ≡ false → view_row m n ≡ own_cells m n
unfolding view_row
view_row-own m n e = rw e

cells_to-at : (tall : Bool) (row : List ℕ) (option : ℕ) (boxes : Bool) (n c : ℕ) (d : Cell) → c < n →
    get_or (cells_to tall row n option boxes) c d ≡ cell_at tall row option boxes c
unfolding cells_to
cells_to-at tall row option boxes n c d l = get_or-map-range_with_len (λ c. cell_at tall row option boxes c) 0 n c c d l (omega arith)

pub own-cell : (m : Memory) (number c : ℕ) → IsOwn m number c →
    cell_in (view_of m) number c ≡ cell_at (is_tall number) (codes_of m number) (option_of m.control) (has_boxes m.control) c
unfolding own_cells
own-cell m number c own =
    ap (λ (row : List Cell). get_or row c space_cell) (rows_to-at m 25 number [] own.0.0 ∙ view_row-own m number own.2)
    ∙ cells_to-at (is_tall number) (codes_of m number) (option_of m.control) (has_boxes m.control) 40 c space_cell own.0.1

-- the codes of a row that is shown
nonzero : (d : ℕ) → (suc d == 0) ≡ false
nonzero d = eqb-suc-zero d

pub codes_of-shown : (m : Memory) (d : ℕ) → is_shown m (suc d) ≡ true → codes_of m (suc d) ≡ memory_row m (suc d)
unfolding codes_of
codes_of-shown m d e = rw (e, nonzero d)

pub codes_of-head : (m : Memory) → is_shown m 0 ≡ true → codes_of m 0 ≡ replicate 8 0x20 ++ drop 8 (memory_row m 0)
unfolding codes_of
codes_of-head m e = rw e
