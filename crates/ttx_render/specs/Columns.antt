-- What the renderer carries from column to column: one pass over a row computes the attributes and the held mosaic.
--
--   attributes_in, attributes_after     the attributes at a column from those left before it, and those that the column leaves
--   held_in, held_after                 the same for the held mosaic
--   attributes_left, held_left          what the columns before c leave
use Rattle.std.specs.Prelude.{ℕ, zero, suc, Bool, ◌&&◌, if◌then◌else◌, List, slice_index}
use Rattle.ttx_render.specs.declared.spacing.Spacing.{Spacing}
use Rattle.ttx_render.specs.declared.cells.Glyph.{Glyph}
use Rattle.ttx_render.specs.declared.cells.Glyph.TheVariants.{Char}
use Rattle.ttx_render.specs.declared.attributes.Attributes.{Attributes}
use Rattle.ttx_render.specs.declared.held_mosaic.Held.{Held}
use Rattle.ttx_render.specs.Spacing.{Effect, Leaves, SetAt, SetAfter, on_fore, on_back, on_flash, on_boxed}
use Rattle.ttx_render.specs.Spacing.{on_double, on_concealed, on_mosaic, on_separated, on_hold}
use Rattle.ttx_render.specs.Attributes.{value_at, value_left, start, spacing_at, fore_at, mosaic_at, double_at, separated_at}
use Rattle.ttx_render.specs.Mosaics.{same, has_blocks, mosaic_of, shows_mosaic, held_at}

-- the value that a column leaves, from the value in force at it
abbrev pub value_from : {A : Type 0} → Effect A → A → A
value_from Leaves now = now
value_from (SetAt value) now = now
value_from (SetAfter value) now = value

abbrev pub attributes_in : Spacing → Attributes → Attributes
attributes_in sets left = record {
  fore = value_at (on_fore sets) left.fore;
  back = value_at (on_back (value_at (on_fore sets) left.fore) sets) left.back;
  flash = value_at (on_flash sets) left.flash;
  boxed = value_at (on_boxed sets) left.boxed;
  double = value_at (on_double sets) left.double;
  concealed = value_at (on_concealed sets) left.concealed;
  mosaic = value_at (on_mosaic sets) left.mosaic;
  separated = value_at (on_separated sets) left.separated;
  hold = value_at (on_hold sets) left.hold;
}

abbrev pub attributes_after : Spacing → Attributes → Attributes
attributes_after sets now = record {
  fore = value_from (on_fore sets) now.fore;
  back = value_from (on_back now.fore sets) now.back;
  flash = value_from (on_flash sets) now.flash;
  boxed = value_from (on_boxed sets) now.boxed;
  double = value_from (on_double sets) now.double;
  concealed = value_from (on_concealed sets) now.concealed;
  mosaic = value_from (on_mosaic sets) now.mosaic;
  separated = value_from (on_separated sets) now.separated;
  hold = value_from (on_hold sets) now.hold;
}

abbrev pub no_held : Held
no_held = record { glyph = Char 0x20; mosaic = start.mosaic; double = start.double }

abbrev pub held_in : Held → Attributes → Glyph
held_in left now = if same now.mosaic left.mosaic && same now.double left.double then left.glyph else Char 0x20

abbrev pub held_after : Attributes → ℕ → Glyph → Held
held_after now code held = record {
  glyph = if now.mosaic && has_blocks code then mosaic_of code now.separated else held;
  mosaic = now.mosaic;
  double = now.double;
}

module _ (tall : Bool) (row : List ℕ) where
  abbrev pub attributes_left : ℕ → Attributes
  attributes_left c = record {
    fore = value_left (λ d. on_fore (spacing_at tall row d)) start.fore c;
    back = value_left (λ d. on_back (fore_at tall row d) (spacing_at tall row d)) start.back c;
    flash = value_left (λ d. on_flash (spacing_at tall row d)) start.flash c;
    boxed = value_left (λ d. on_boxed (spacing_at tall row d)) start.boxed c;
    double = value_left (λ d. on_double (spacing_at tall row d)) start.double c;
    concealed = value_left (λ d. on_concealed (spacing_at tall row d)) start.concealed c;
    mosaic = value_left (λ d. on_mosaic (spacing_at tall row d)) start.mosaic c;
    separated = value_left (λ d. on_separated (spacing_at tall row d)) start.separated c;
    hold = value_left (λ d. on_hold (spacing_at tall row d)) start.hold c;
  }

  abbrev pub held_left : ℕ → Held
  held_left zero = no_held
  held_left (suc d) = record {
    glyph = if shows_mosaic tall row d then mosaic_of (slice_index row d) (separated_at tall row d) else held_at tall row d;
    mosaic = mosaic_at tall row d;
    double = double_at tall row d;
  }
