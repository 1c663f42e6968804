-- No cell of a View shows a control character.
use Rattle.std.proofs.Common.{◌≡◌, ℕ, zero, suc, ◌+◌, ◌-◌, ◌<◌, ◌≤◌, Bool, true, false, not, ◌&&◌, ◌||◌, ◌==◌, if◌then◌else◌, nat_lt, List, [], ◌∷◌}
use Rattle.std.proofs.Common.{get_or, map, refl, arith}
use Rattle.std.proofs.lemmas.Bool.{agree_below, agree_below_at}
use Rattle.std.specs.List.{AllByRecursion, range_with_len}
use Rattle.ttx_charset.specs.Glyphs.{glyph, national_set}
use Rattle.ttx_header.specs.Control.{option_of}
use Rattle.ttx_page.specs.Memories.{Memory, IsMemory, memory_row}
use Rattle.ttx_page.specs.Pages.{IsRow, is_tall}
use Rattle.ttx_render.specs.declared.attributes.Attributes.{Attributes}
use Rattle.ttx_render.specs.declared.cells.Cell.{Cell}
use Rattle.ttx_render.specs.declared.cells.Glyph.{Glyph}
use Rattle.ttx_render.specs.declared.cells.Glyph.TheVariants.{Char}
use Rattle.ttx_render.specs.declared.cells.Part.{Part}
use Rattle.ttx_render.specs.declared.cells.Part.TheVariants.{Single, Upper, Lower}
use Rattle.ttx_render.specs.Attributes.{attributes_at}
use Rattle.ttx_render.specs.Cells.{glyph_of, cell_at, cells_to}
use Rattle.ttx_render.specs.Laws.{is_control, IsPrinted, ArePrinted, ViewsArePrinted}
use Rattle.ttx_render.specs.Mosaics.{has_blocks, held_at, stays, shows_mosaic}
use Rattle.ttx_render.specs.View.{is_shown, codes_of, has_boxes, own_cells, is_below, lower, lower_at, view_row, rows_to}
use Rattle.ttx_render.proofs.LetterCells.{option_of-lt}
use Rattle.ttx_render.proofs.SpaceRows.{IsRow-spaces, IsRow-head}

by_if : {X : Type 0} (P : X → Type 0) (b : Bool) (x y : X) → (b ≡ true → P x) → (b ≡ false → P y) → P (if b then x else y)
by_if P true x y f g = f refl
by_if P false x y f g = g refl

-- glyphs

abbrev is_right : ℕ → ℕ → Bool
is_right option code = nat_lt code 0x20 || not (is_control (glyph option code))

abbrev are_right : ℕ → Bool
are_right option = agree_below (is_right option) (λ _. true) 128

-- computed for all codes under all options
all_right : agree_below are_right (λ _. true) 8 ≡ true
unfolding glyph national_set
all_right = refl

right_one : (a b : Bool) → a || not b ≡ true → a ≡ false → b ≡ false
right_one true b e low = cc
right_one false true e low = cc
right_one false false e low = refl

glyph_printed : (option code : ℕ) → option < 8 → code < 128 → nat_lt code 0x20 ≡ false → IsPrinted (Char (glyph option code))
glyph_printed option code o c low =
    right_one (nat_lt code 0x20) (is_control (glyph option code))
    (agree_below_at (is_right option) (λ _. true) 128 code (agree_below_at are_right (λ _. true) 8 option all_right o) c) low

held_printed : (tall : Bool) (row : List ℕ) (c : ℕ) → IsPrinted (held_at tall row c)
held_printed tall row zero = refl
held_printed tall row (suc d) =
    by_if IsPrinted (stays tall row d) _ _ (λ _. by_if IsPrinted (shows_mosaic tall row d) _ _ (λ _. tt) (λ _. held_printed tall row d)) (λ _. refl)

shown_printed : (now : Attributes) (held : Glyph) (option code : ℕ) → IsPrinted held → option < 8 → code < 128 →
    IsPrinted (glyph_of now held option code)
shown_printed now held option code h o c =
    by_if IsPrinted (nat_lt code 0x20) _ _ (λ _. by_if IsPrinted now.hold _ _ (λ _. h) (λ _. refl))
    (λ low. by_if IsPrinted (now.mosaic && has_blocks code) _ _ (λ _. tt) (λ _. glyph_printed option code o c low))

-- rows

abbrev pub Printed : List Cell → Type 0
Printed cells = AllByRecursion (λ (cell : Cell). IsPrinted cell.glyph) cells

map_printed : (f : ℕ → Cell) → ((c : ℕ) → IsPrinted (f c).glyph) → (low n : ℕ) → Printed (map f (range_with_len low n))
map_printed f h low zero = tt
map_printed f h low (suc n) = (h low, map_printed f h (low + 1) n)

cells_printed : (tall : Bool) (row : List ℕ) (n option : ℕ) (boxes : Bool) → option < 8 → IsRow row → Printed (cells_to tall row n option boxes)
unfolding cells_to
cells_printed tall row n option boxes o is =
    map_printed (λ c. cell_at tall row option boxes c)
    (λ c. shown_printed (attributes_at tall row c) (held_at tall row c) option (get_or row c 0) (held_printed tall row c) o (is.codes c)) 0 n

codes_row : (m : Memory) → IsMemory m → (number : ℕ) → number < 25 → IsRow (codes_of m number)
unfolding codes_of
codes_row m is number l =
    by_if IsRow (not (is_shown m number)) _ _ (λ _. IsRow-spaces)
    (λ _. by_if IsRow (number == 0) _ _ (λ _. IsRow-head (memory_row m number) (is.rows number l)) (λ _. is.rows number l))

own_printed : (m : Memory) → IsMemory m → (number : ℕ) → number < 25 → Printed (own_cells m number)
unfolding own_cells
own_printed m is number l =
    cells_printed (is_tall number) (codes_of m number) 40 (option_of m.control) (has_boxes m.control) (option_of-lt m.control)
    (codes_row m is number l)

lower_printed : (cell : Cell) → IsPrinted cell.glyph → IsPrinted (lower cell).glyph
lower_printed cell h = by_part cell.part
  where
    by_part : (part : Part) → IsPrinted (lower_at part cell).glyph
    by_part Single = refl
    by_part Upper = h
    by_part Lower = refl

lowered_printed : (cells : List Cell) → Printed cells → Printed (map lower cells)
lowered_printed [] h = tt
lowered_printed (cell ∷ cells) h = (lower_printed cell h.0, lowered_printed cells h.1)

row_printed : (m : Memory) → IsMemory m → (number : ℕ) → number < 25 → Printed (view_row m number)
unfolding view_row
row_printed m is number l =
    by_if Printed (is_below m number) _ _
    (λ _. lowered_printed (own_cells m (number - 1)) (own_printed m is (number - 1) (omega (arith, l))))
    (λ _. own_printed m is number l)

rows_printed : (m : Memory) → IsMemory m → (low n : ℕ) → low + n ≤ 25 → ArePrinted (map (λ number. view_row m number) (range_with_len low n))
rows_printed m is low zero l = tt
rows_printed m is low (suc n) l = (row_printed m is low (omega (arith, l)), rows_printed m is (low + 1) n (omega (arith, l)))

pub views_are_printed_lem : ViewsArePrinted
unfolding rows_to
views_are_printed_lem m is = rows_printed m is 0 25 (omega arith)
