-- The cells of a row that is shown and not hidden.
--
--   glyph_of, cell_of       what a code shows with these attributes in force
--   cell_at, cells_to       the cell at a column, and the first n cells of a row
--   space_cell              a space with the attributes at the start of a row
use Rattle.std.specs.Prelude.{ℕ, Bool, false, not, ◌&&◌, if◌then◌else◌, List, slice_index, nat_lt, map}
use Rattle.std.specs.List.{range_with_len}
use Rattle.ttx_charset.specs.Glyphs.{glyph}
use Rattle.ttx_render.specs.declared.colour.Colour.TheVariants.{Black, White}
use Rattle.ttx_render.specs.declared.cells.Glyph.{Glyph}
use Rattle.ttx_render.specs.declared.cells.Glyph.TheVariants.{Char}
use Rattle.ttx_render.specs.declared.cells.Part.TheVariants.{Single, Upper}
use Rattle.ttx_render.specs.declared.cells.Cell.{Cell}
use Rattle.ttx_render.specs.declared.attributes.Attributes.{Attributes}
use Rattle.ttx_render.specs.Attributes.{attributes_at}
use Rattle.ttx_render.specs.Mosaics.{has_blocks, mosaic_of, held_at}

-- A code 00 to 1F shows the held mosaic while hold is in force, otherwise a space. In mosaic mode, 40 to 5F still show as characters.
abbrev pub glyph_of : Attributes → Glyph → ℕ → ℕ → Glyph
glyph_of now held option code =
    if nat_lt code 0x20 then (if now.hold then held else Char 0x20)
    else if now.mosaic && has_blocks code then mosaic_of code now.separated
    else Char (glyph option code)

-- the cell of a code on a page with this national option, with boxes (newsflash or subtitle) or without
abbrev pub cell_of : Attributes → Glyph → ℕ → Bool → ℕ → Cell
cell_of now held option boxes code = record {
  glyph = glyph_of now held option code;
  fore = now.fore;
  back = now.back;
  flash = now.flash;
  concealed = now.concealed;
  picture = boxes && not now.boxed;
  part = if now.double then Upper else Single;
}

module _ (tall : Bool) (row : List ℕ) where
  abbrev pub cell_at : ℕ → Bool → ℕ → Cell
  cell_at option boxes c = cell_of (attributes_at tall row c) (held_at tall row c) option boxes (slice_index row c)

  -- the first n cells
  unfoldable pub cells_to : ℕ → ℕ → Bool → List Cell
  cells_to n option boxes = map (λ c. cell_at option boxes c) (range_with_len 0 n)

abbrev pub space_cell : Cell
space_cell = record {
  glyph = Char 0x20;
  fore = White;
  back = Black;
  flash = false;
  concealed = false;
  picture = false;
  part = Single;
}
