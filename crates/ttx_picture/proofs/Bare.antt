-- A layer draws nothing of a row without mosaics, and the ground nothing of a row without backgrounds.
use Rattle.std.proofs.Common.{◌≡◌, ℕ, ◌+◌, Bool, true, false, not, ◌&&◌, ◌||◌, if◌then◌else◌, List, [], ◌∷◌, Option, Some, None, is_some, refl, ap}
use Rattle.std.proofs.lemmas.Bool.{or_parts}
use Rattle.std.specs.List.{list_any}
use Rattle.ttx_render.specs.declared.cells.Glyph.{Glyph}
use Rattle.ttx_render.specs.declared.cells.Glyph.TheVariants.{Char, Mosaic}
use Rattle.ttx_render.specs.declared.cells.Cell.{Cell}
use Rattle.ttx_picture.specs.declared.svg.pens.Pen.{Pen}
use Rattle.ttx_picture.specs.declared.svg.pens.Layer.{Layer}
use Rattle.ttx_picture.specs.declared.svg.pens.Layer.TheVariants.{Ground, Top, Middle, Bottom}
use Rattle.ttx_picture.specs.Bare.{is_mosaic, has_ground}
use Rattle.ttx_picture.specs.Shown.{shown_glyph}
use Rattle.ttx_picture.specs.Svg.{ground, block, half_of, cell_halves, left_block, right_block, strokes, drawn}

-- no half of a row is drawn
abbrev pub AreNone : List (Option Pen) → Type 0
AreNone [] = Unit {0}
AreNone (half ∷ halves) = (half ≡ None) × AreNone halves

strokes_none : (layer : Layer) (x : ℕ) (halves : List (Option Pen)) → AreNone halves → strokes layer None false x halves ≡ []
strokes_none layer x [] h = refl
strokes_none layer x (half ∷ halves) h = rw h.0 (strokes_none layer (x + 10) halves h.1)

block_none : (cell : Cell) (tall : Bool) (value : ℕ) (b : Bool) (g : Glyph) → is_mosaic g ≡ false
    → block cell tall value (if b then Char 0x20 else g) ≡ None
block_none cell tall value true g h = refl
block_none cell tall value false (Char code) h = refl
block_none cell tall value false (Mosaic blocks separated) h = absurd (let e : true ≡ false = h in cc)

abbrev pub IsAbove : Layer → Type 0
IsAbove Ground = ⊥
IsAbove Top = Unit {0}
IsAbove Middle = Unit {0}
IsAbove Bottom = Unit {0}

module _ (reveal tall : Bool) where
  shown_none : (value : ℕ) (cell : Cell) → is_mosaic cell.glyph ≡ false → block cell tall value (shown_glyph reveal cell) ≡ None
  shown_none value cell h = block_none cell tall value (cell.picture || (cell.concealed && not reveal)) cell.glyph h

  half_none : (layer : Layer) → IsAbove layer → (value : ℕ) (cell : Cell) → is_mosaic cell.glyph ≡ false
      → half_of reveal tall layer value cell ≡ None
  half_none Ground above value cell h = absurd above
  half_none Top above value cell h = shown_none value cell h
  half_none Middle above value cell h = shown_none value cell h
  half_none Bottom above value cell h = shown_none value cell h

  halves_none : (layer : Layer) → IsAbove layer → (cells : List Cell) → list_any (λ c. is_mosaic c.glyph) cells ≡ false
      → AreNone (cell_halves reveal tall layer cells)
  halves_none layer above [] h = tt
  halves_none layer above (cell ∷ cells) h =
      let own = or_parts (is_mosaic cell.glyph) (list_any (λ c. is_mosaic c.glyph) cells) h in (
        half_none layer above (left_block layer) cell own.0,
        (half_none layer above (right_block layer) cell own.0, halves_none layer above cells own.1),
      )

  pub bare_layer : (layer : Layer) → IsAbove layer → (cells : List Cell) → list_any (λ c. is_mosaic c.glyph) cells ≡ false
      → drawn reveal tall layer cells ≡ []
  bare_layer layer above cells h = strokes_none layer 0 (cell_halves reveal tall layer cells) (halves_none layer above cells h)

ground_none : (pen : Option Pen) → is_some pen ≡ false → pen ≡ None
ground_none None h = refl
ground_none (Some pen) h = absurd (let e : true ≡ false = h in cc)

grounds_none : (cells : List Cell) → list_any has_ground cells ≡ false → AreNone (cell_halves false false Ground cells)
grounds_none [] h = tt
grounds_none (cell ∷ cells) h =
    let own = or_parts (has_ground cell) (list_any has_ground cells) h in
    let none = ground_none (ground cell) own.0 in
    (none, (none, grounds_none cells own.1))

pub bare_ground : (cells : List Cell) → list_any has_ground cells ≡ false → drawn false false Ground cells ≡ []
bare_ground cells h = strokes_none Ground 0 (cell_halves false false Ground cells) (grounds_none cells h)
