-- Cells as 32-bit words (profile).
use Rattle.std.specs.Prelude.{ℕ, ◌+◌, ◌*◌, ◌^◌, Bool, if◌then◌else◌}
use Rattle.ttx_render.specs.declared.cells.Glyph.{Glyph}
use Rattle.ttx_render.specs.declared.cells.Glyph.TheVariants.{Char, Mosaic}
use Rattle.ttx_render.specs.declared.cells.Part.{Part}
use Rattle.ttx_render.specs.declared.cells.Part.TheVariants.{Single, Upper, Lower}
use Rattle.ttx_render.specs.declared.cells.Cell.{Cell}
use Rattle.ttx_render.specs.Colours.{colour_number}

abbrev pub flag : Bool → ℕ
flag b = if b then 1 else 0

-- a character is its Unicode code point, at most 10FFFF; mosaics follow above that, separated ones 40 higher
abbrev pub glyph_word : Glyph → ℕ
glyph_word (Char code) = code
glyph_word (Mosaic blocks separated) = 0x110000 + blocks + 0x40 * flag separated

abbrev pub part_number : Part → ℕ
part_number Single = 0
part_number Upper = 1
part_number Lower = 2

-- from the lowest bit: 21 bits of glyph, 3 of foreground, 3 of background, flash, concealed, picture, 2 bits of part
abbrev pub cell_word : Cell → ℕ
cell_word cell =
    glyph_word cell.glyph + 2 ^ 21 * (colour_number cell.fore + 8 * (colour_number cell.back
    + 8 * (flag cell.flash + 2 * (flag cell.concealed + 2 * (flag cell.picture + 2 * part_number cell.part)))))
