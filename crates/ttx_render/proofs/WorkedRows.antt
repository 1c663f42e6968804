-- The definitions of the display, computed on single rows.
use Rattle.std.proofs.Common.{◌≡◌, ℕ, ◌-◌, false, List, [], ◌∷◌, ◌++◌, refl, length, map, replicate}
use Rattle.ttx_charset.specs.Glyphs.{glyph, national_set}
use Rattle.ttx_links.specs.Sets.{no_links}
use Rattle.ttx_page.specs.Memories.{Memory, memory_at}
use Rattle.ttx_page.specs.Pages.{blank_row}
use Rattle.ttx_page.specs.Receivers.{with_row}
use Rattle.ttx_render.specs.Cells.{cells_to}
use Rattle.ttx_render.specs.Colours.{colour_of}
use Rattle.ttx_render.specs.Spacing.{spacing_of}
use Rattle.ttx_render.specs.View.{view_row, own_cells, codes_of}
use Rattle.ttx_render.specs.CellWords.{cell_word}

-- a memory with these control bits, blank except for the beginning of one row
abbrev memory_with : ℕ → ℕ → List ℕ → Memory
memory_with control number codes =
    with_row (memory_at (replicate 25 blank_row) control no_links false 64 false) number (codes ++ replicate (40 - length codes) 0x20)

abbrev row_words : Memory → ℕ → List ℕ
row_words m number = map cell_word (view_row m number)

-- mosaics under hold, across a change of colour, until a change of mode
held-mosaics : row_words (memory_with 0 1 (0x11 ∷ 0x1e ∷ 0x7f ∷ 0x13 ∷ 0x7f ∷ 0x07 ∷ 0x41 ∷ 0x17 ∷ [])) 1
    ≡ 0x00e00020 ∷ 0x00200020 ∷ 0x0031003f ∷ 0x0031003f ∷ 0x0071003f ∷ 0x0071003f ∷ 0x00e00041 ∷ 0x00e00020 ∷ replicate 32 0x00f10000
unfolding glyph national_set spacing_of colour_of view_row own_cells codes_of cells_to
held-mosaics = refl

-- double height that is undone before it acts does not change the height, so the held mosaic stays
undone-height : row_words (memory_with 0 1 (0x11 ∷ 0x1e ∷ 0x7f ∷ 0x0d ∷ 0x0c ∷ 0x12 ∷ [])) 1
    ≡ 0x00e00020 ∷ 0x00200020 ∷ 0x0031003f ∷ 0x0031003f ∷ 0x0031003f ∷ 0x0031003f ∷ replicate 34 0x00510000
unfolding glyph national_set spacing_of colour_of view_row own_cells codes_of cells_to
undone-height = refl

-- double height
upper-halves : row_words (memory_with 0 5 (0x0d ∷ 0x41 ∷ [])) 5
    ≡ 0x00e00020 ∷ 0x40e00041 ∷ replicate 38 0x40e00020
unfolding glyph national_set spacing_of colour_of view_row own_cells codes_of cells_to
upper-halves = refl

-- the row below it
lower-halves : row_words (memory_with 0 5 (0x0d ∷ 0x41 ∷ [])) 6
    ≡ 0x00e00020 ∷ 0x80e00041 ∷ replicate 38 0x80e00020
unfolding glyph national_set spacing_of colour_of view_row own_cells codes_of cells_to
lower-halves = refl

-- row 23 is the last that can be hidden
last-hidden : row_words (memory_with 0 22 (0x0d ∷ [])) 23
    ≡ 0x00e00020 ∷ replicate 39 0x80e00020
unfolding glyph national_set spacing_of colour_of view_row own_cells codes_of cells_to
last-hidden = refl

-- a height code in row 23 has no effect
low-row : row_words (memory_with 0 23 (0x0d ∷ 0x41 ∷ [])) 23
    ≡ 0x00e00020 ∷ 0x00e00041 ∷ replicate 38 0x00e00020
unfolding glyph national_set spacing_of colour_of view_row own_cells codes_of cells_to
low-row = refl

-- a box in a subtitle
boxed-subtitle : row_words (memory_with 4 1 (0x0b ∷ 0x0b ∷ 0x41 ∷ 0x0a ∷ 0x0a ∷ [])) 1
    ≡ 0x20e00020 ∷ 0x00e00020 ∷ 0x00e00041 ∷ 0x00e00020 ∷ replicate 36 0x20e00020
unfolding glyph national_set spacing_of colour_of view_row own_cells codes_of cells_to
boxed-subtitle = refl

-- three equal box codes: the first and the second count
three-box-codes : row_words (memory_with 4 1 (0x0b ∷ 0x0b ∷ 0x0b ∷ 0x41 ∷ [])) 1
    ≡ 0x20e00020 ∷ 0x00e00020 ∷ 0x00e00020 ∷ 0x00e00041 ∷ replicate 36 0x00e00020
unfolding glyph national_set spacing_of colour_of view_row own_cells codes_of cells_to
three-box-codes = refl

-- new background takes the foreground of its own column
new-background : row_words (memory_with 0 1 (0x01 ∷ 0x1d ∷ 0x07 ∷ 0x42 ∷ [])) 1
    ≡ 0x00e00020 ∷ 0x01200020 ∷ 0x01200020 ∷ 0x01e00042 ∷ replicate 36 0x01e00020
unfolding glyph national_set spacing_of colour_of view_row own_cells codes_of cells_to
new-background = refl

-- conceal ends after a colour code
concealed : row_words (memory_with 0 1 (0x18 ∷ 0x41 ∷ 0x01 ∷ 0x42 ∷ [])) 1
    ≡ 0x10e00020 ∷ 0x10e00041 ∷ 0x10e00020 ∷ 0x00200042 ∷ replicate 36 0x00200020
unfolding glyph national_set spacing_of colour_of view_row own_cells codes_of cells_to
concealed = refl

-- flash acts after its column, steady at its own
flashing : row_words (memory_with 0 1 (0x08 ∷ 0x41 ∷ 0x09 ∷ 0x42 ∷ [])) 1
    ≡ 0x00e00020 ∷ 0x08e00041 ∷ 0x00e00020 ∷ 0x00e00042 ∷ replicate 36 0x00e00020
unfolding glyph national_set spacing_of colour_of view_row own_cells codes_of cells_to
flashing = refl

-- a German character
national-character : row_words (memory_with 1152 1 (0x5b ∷ [])) 1
    ≡ 0x00e000c4 ∷ replicate 39 0x00e00020
unfolding glyph national_set spacing_of colour_of view_row own_cells codes_of cells_to
national-character = refl
