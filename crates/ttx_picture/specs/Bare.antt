-- Cells of which a layer of a picture draws nothing.
--
--   is_mosaic, has_ground   a glyph of blocks; a cell whose background is drawn
use Rattle.std.specs.Prelude.{Bool, true, false, is_some}
use Rattle.ttx_render.specs.declared.cells.Glyph.{Glyph}
use Rattle.ttx_render.specs.declared.cells.Glyph.TheVariants.{Char, Mosaic}
use Rattle.ttx_render.specs.declared.cells.Cell.{Cell}
use Rattle.ttx_picture.specs.Svg.{ground}

abbrev pub is_mosaic : Glyph → Bool
is_mosaic (Char code) = false
is_mosaic (Mosaic blocks separated) = true

abbrev pub has_ground : Cell → Bool
has_ground cell = is_some (ground cell)
