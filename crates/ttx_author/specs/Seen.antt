-- What an author writes is what the viewers see.
--
--   ShowsCharacter, Shows           a glyph is a character, or the blocks for which it stands; a glyph is what a mark says
--   mark_at                         what an author writes into a cell
--   RowIsSeen, HeadIsSeen           each cell of a row, and of the text in a header, shows what its mark says
use Rattle.std.specs.Prelude.{◌≡◌, ◌+◌, ℕ, suc, Bool, false, List, Ok, map, take, drop, slice_index_or}
use Rattle.ttx_header.specs.Control.{option_of}
use Rattle.ttx_page.specs.Memories.{Memory, memory_row}
use Rattle.ttx_page.specs.Pages.{is_tall}
use Rattle.ttx_render.specs.declared.cells.Glyph.{Glyph}
use Rattle.ttx_render.specs.declared.cells.Glyph.TheVariants.{Char, Mosaic}
use Rattle.ttx_render.specs.Attributes.{hold_at}
use Rattle.ttx_render.specs.View.{view_of, codes_of}
use Rattle.ttx_render.specs.Comparison.{cell_in}
use Rattle.ttx_render.specs.Laws.{IsOwn}
use Rattle.ttx_author.specs.Signs.{block_character}
use Rattle.ttx_author.specs.declared.marks.Mark.{Mark}
use Rattle.ttx_author.specs.declared.marks.Mark.TheVariants.{Sign, Control, Stray}
use Rattle.ttx_author.specs.Marks.{marks_of}
use Rattle.ttx_author.specs.Rows.{line_of}

-- the glyph is this character, or the blocks for which it stands, contiguous or separated
abbrev pub ShowsCharacter : ℕ → Glyph → Type 0
ShowsCharacter character (Char code) = code ≡ character
ShowsCharacter character (Mosaic blocks separated) = block_character blocks ≡ character

-- A character shows itself. A control code shows a space, unless hold is in force and it shows the held mosaic.
abbrev pub Shows : Bool → Mark → Glyph → Type 0
Shows hold (Sign character) glyph = ShowsCharacter character glyph
Shows hold (Control code) glyph = hold ≡ false → glyph ≡ Char 0x20
Shows hold Stray glyph = ⊥

-- the mark in a cell; after the last one come spaces
abbrev pub mark_at : List ℕ → ℕ → Mark
mark_at text cell = slice_index_or (map (λ placed. placed.mark) (marks_of text)) cell (Sign 0x20)

-- the cell of a memory's View shows what the mark says; a concealed cell has its glyph, which is seen when it is revealed
abbrev pub CellShows : Memory → ℕ → ℕ → Mark → Type 0
CellShows m number c mark = Shows (hold_at (is_tall number) (codes_of m number) c) mark (cell_in (view_of m) number c).glyph

-- Where a memory has the codes of a text in a row, 1 to 24, that is shown and not hidden, each cell shows what the text says there.
abbrev pub RowIsSeen : Type 0
RowIsSeen =
    (m : Memory) (above c : ℕ) (text : List ℕ) → line_of 40 (option_of m.control) text ≡ Ok (memory_row m (suc above)) → IsOwn m (suc above) c
    → CellShows m (suc above) c (mark_at text c)

-- The same for columns 8 to 31 of row 0.
abbrev pub HeadIsSeen : Type 0
HeadIsSeen =
    (m : Memory) (c : ℕ) (text : List ℕ) → line_of 24 (option_of m.control) text ≡ Ok (take 24 (drop 8 (memory_row m 0))) → IsOwn m 0 (8 + c)
    → CellShows m 0 (8 + c) (mark_at text c)
