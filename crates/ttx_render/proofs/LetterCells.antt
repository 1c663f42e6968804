-- Letters in Views.
use Rattle.std.proofs.Common.{◌≡◌, ℕ, zero, suc, ◌+◌, ◌-◌, ◌<◌, ◌≤◌, List, [], drop, replicate, get_or, refl, ap, sym, ◌∙◌, arith, get_or-drop}
use Rattle.std.proofs.lemmas.List.{get_or-append_right}
use Rattle.ttx_charset.specs.Laws.{LettersStandAlone}
use Rattle.ttx_header.specs.Control.{option_of}
use Rattle.ttx_page.specs.Memories.{Memory, memory_row}
use Rattle.ttx_render.specs.declared.cells.Cell.{Cell}
use Rattle.ttx_render.specs.Attributes.{attributes_at}
use Rattle.ttx_render.specs.Cells.{cell_at, space_cell, glyph_of}
use Rattle.ttx_render.specs.Comparison.{cell_in}
use Rattle.ttx_render.specs.Laws.{IsOwn, LetterIsShown, LetterIsSeen}
use Rattle.ttx_render.specs.Mosaics.{held_at, same}
use Rattle.ttx_page.specs.Pages.{is_tall}
use Rattle.ttx_render.specs.View.{codes_of, view_of, has_boxes, own_cells}
use Rattle.ttx_render.proofs.ViewRows.{view_row-own, rows_to-at}
use Rattle.ttx_render.proofs.Columns.{cells_to-at}
use Rattle.ttx_render.proofs.ShownRows.{codes_of-shown, codes_of-head}
use Rattle.ttx_render.proofs.Letters.{held-letter, glyph_of-letter, letter-glyph_of}

pub option_of-lt : (control : ℕ) → option_of control < 8
option_of-lt control = omega arith

-- the code of a cell that is shown
pub own-code : (m : Memory) (number c : ℕ) → IsOwn m number c → get_or (codes_of m number) c 0 ≡ get_or (memory_row m number) c 0
own-code m zero c own =
    let from : 8 ≤ c = (own.0.2 refl).0 in
    let back : 8 + (c - 8) ≡ c = omega arith in
    ap (λ (row : List ℕ). get_or row c 0) (codes_of-head m own.1)
    ∙ get_or-append_right (replicate 8 0x20) (drop 8 (memory_row m 0)) 8 c 0 refl from
    ∙ get_or-drop 8 (memory_row m 0) (c - 8) 0
    ∙ ap (λ (k : ℕ). get_or (memory_row m 0) k 0) back
own-code m (suc d) c own = ap (λ (row : List ℕ). get_or row c 0) (codes_of-shown m d own.1)

pub own-cell : (m : Memory) (number c : ℕ) → IsOwn m number c →
    cell_in (view_of m) number c ≡ cell_at (is_tall number) (codes_of m number) (option_of m.control) (has_boxes m.control) c
unfolding own_cells
own-cell m number c own =
    ap (λ (row : List Cell). get_or row c space_cell) (rows_to-at m 25 number [] own.0.0 ∙ view_row-own m number own.2)
    ∙ cells_to-at (is_tall number) (codes_of m number) (option_of m.control) (has_boxes m.control) 40 c space_cell own.0.1

pub letter_is_shown_lem : LettersStandAlone → LetterIsShown
letter_is_shown_lem alone m number c letter is own l =
    let code = own-code m number c own in
    let cell = own-cell m number c own in
    let small : get_or (codes_of m number) c 0 < 128 = rw code l in (
      λ e. sym code ∙ glyph_of-letter alone (attributes_at (is_tall number) (codes_of m number) c)
          (held_at (is_tall number) (codes_of m number) c) (option_of m.control)
          (get_or (codes_of m number) c 0) letter is (option_of-lt m.control) small (held-letter (is_tall number) (codes_of m number) letter c)
          (sym (ap (λ (x : Cell). x.glyph) cell) ∙ e),
      λ e. ap (λ (x : Cell). x.glyph) cell
          ∙ ap (λ (k : ℕ). (glyph_of (attributes_at (is_tall number) (codes_of m number) c)
          (held_at (is_tall number) (codes_of m number) c) (option_of m.control) k)) (code ∙ e)
          ∙ letter-glyph_of alone (attributes_at (is_tall number) (codes_of m number) c)
          (held_at (is_tall number) (codes_of m number) c) (option_of m.control) letter is (option_of-lt m.control),
    )

pub letter_is_seen_lem : LettersStandAlone → LetterIsSeen
letter_is_seen_lem alone m n number c letter is own_m own_n small_m small_n there elsewhere same =
    let first = (letter_is_shown_lem alone m number c letter is own_m small_m).1 there in
    elsewhere ((letter_is_shown_lem alone n number c letter is own_n small_n).0
    (sym (ap (λ (x : Cell). x.glyph) (same.cells number c own_m.0)) ∙ first))
