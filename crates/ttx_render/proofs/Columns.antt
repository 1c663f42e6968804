-- From one column to the next.
use Rattle.std.proofs.Common.{◌≡◌, ℕ, zero, suc, ◌+◌, Bool, true, false, if◌then◌else◌, List, [], ◌∷◌, ◌++◌, ◌<◌, length, refl, ap, get_or, arith}
use Rattle.std.proofs.Common.{sym, ◌∙◌, add-one}
use Rattle.std.proofs.lemmas.List.FromFn.{map-range_with_len_more, get_or-map-range_with_len, length-map-range_with_len}
use Rattle.ttx_render.specs.declared.cells.Cell.{Cell}
use Rattle.ttx_render.specs.declared.cells.Glyph.{Glyph}
use Rattle.ttx_render.specs.declared.cells.Glyph.TheVariants.{Char}
use Rattle.ttx_render.specs.Attributes.{value_at, value_after, spacing_at, attributes_at}
use Rattle.ttx_render.specs.Cells.{cells_to, cell_at}
use Rattle.ttx_render.specs.Columns.{value_from, attributes_left, attributes_in, attributes_after, held_in, held_left, held_after}
use Rattle.ttx_render.specs.Mosaics.{held_at}
use Rattle.ttx_render.specs.Spacing.{Effect, Leaves, SetAt, SetAfter}

-- the value of one attribute that a column leaves, whether it is set from this column or from the next
pub value_from-at : {A : Type 0} (acts : Effect A) (before : A) → value_from acts (value_at acts before) ≡ value_after acts before
value_from-at Leaves before = refl
value_from-at (SetAt value) before = refl
value_from-at (SetAfter value) before = refl

pub attributes_in-left : (tall : Bool) (row : List ℕ) (c : ℕ) → attributes_in (spacing_at tall row c) (attributes_left tall row c)
    ≡ attributes_at tall row c
attributes_in-left tall row c = refl

pub attributes_after-at : (tall : Bool) (row : List ℕ) (c : ℕ) → attributes_after (spacing_at tall row c) (attributes_at tall row c)
    ≡ attributes_left tall row (suc c)
attributes_after-at tall row c = simp value_from-at

if-same : (b : Bool) (g : Glyph) → (if b then g else g) ≡ g
if-same true g = refl
if-same false g = refl

pub held_in-left : (tall : Bool) (row : List ℕ) (c : ℕ) → held_in (held_left tall row c) (attributes_at tall row c) ≡ held_at tall row c
held_in-left tall row zero = if-same _ (Char 0x20)
held_in-left tall row (suc d) = refl

pub held_after-at : (tall : Bool) (row : List ℕ) (c : ℕ) → held_after (attributes_at tall row c) (get_or row c 0) (held_at tall row c)
    ≡ held_left tall row (suc c)
held_after-at tall row c = refl

pub attributes_after-more : (tall : Bool) (row : List ℕ) (c : ℕ) → attributes_after (spacing_at tall row c) (attributes_at tall row c)
    ≡ attributes_left tall row (c + 1)
attributes_after-more tall row c = attributes_after-at tall row c ∙ ap (attributes_left tall row) (sym (add-one c))

pub held_after-more : (tall : Bool) (row : List ℕ) (c : ℕ) → held_after (attributes_at tall row c) (get_or row c 0) (held_at tall row c)
    ≡ held_left tall row (c + 1)
held_after-more tall row c = ap (held_left tall row) (sym (add-one c))

-- the cells of a row

module _ (tall : Bool) (row : List ℕ) (option : ℕ) (boxes : Bool) where
  pub cells_to-zero : cells_to tall row 0 option boxes ≡ []
  unfolding cells_to
  cells_to-zero = refl

  pub cells_to-more : (n : ℕ) → cells_to tall row (n + 1) option boxes ≡ cells_to tall row n option boxes ++ cell_at tall row option boxes n ∷ []
  unfolding cells_to
  cells_to-more n = map-range_with_len_more (λ c. cell_at tall row option boxes c) 0 n n (omega arith)

  pub cells_to-at : (n c : ℕ) (d : Cell) → c < n → get_or (cells_to tall row n option boxes) c d ≡ cell_at tall row option boxes c
  unfolding cells_to
  cells_to-at n c d l = get_or-map-range_with_len (λ c. cell_at tall row option boxes c) 0 n c c d l (omega arith)

  pub cells_to-length : (n : ℕ) → length (cells_to tall row n option boxes) ≡ n
  unfolding cells_to
  cells_to-length n = length-map-range_with_len (λ c. cell_at tall row option boxes c) 0 n
