-- The marks of an author's text: what it writes into each cell, in order.
--
--   piece, stray        a part of a text that stands for one or two cells; a brace that begins no tag
--   piece_of            the piece with which a text begins
--   marks_from, marks_of        the marks of a text, each with the index of its character
use Rattle.std.specs.Prelude.{ℕ, zero, suc, ◌+◌, ◌-◌, List, [], ◌∷◌, ◌++◌, Option, Some, None, ◌==◌, if◌then◌else◌, take, replicate, slice_index}
use Rattle.std.specs.List.{position}
use Rattle.ttx_author.specs.Tags.{tag_of}
use Rattle.ttx_author.specs.declared.tags.Tag.{Tag}
use Rattle.ttx_author.specs.declared.marks.Mark.{Mark}
use Rattle.ttx_author.specs.declared.marks.Mark.TheVariants.{Sign, Control, Stray}
use Rattle.ttx_author.specs.declared.marks.Piece.{Piece}

-- a mark that fills this number of cells, and is written in this number of characters
abbrev pub piece : Mark → ℕ → ℕ → Piece
piece mark cells size = record { mark = mark; cells = cells; size = size }

abbrev pub stray : Piece
stray = piece Stray 1 1

-- a name in braces is a tag
abbrev pub tagged : ℕ → Option Tag → Piece
tagged end None = stray
tagged end (Some tag) = piece (Control tag.code) tag.cells (end + 2)

-- the piece after a brace, given where its closing brace stands
abbrev pub braced : List ℕ → Option ℕ → Piece
braced rest None = stray
braced rest (Some end) = tagged end (tag_of (take end rest))

-- Two opening braces are one that is seen, one brace begins a tag, and any other character is to be seen.
unfoldable pub piece_of : List ℕ → Piece
piece_of [] = stray
piece_of (c ∷ rest) =
    if c == 0x7b then (if slice_index rest 0 == 0x7b then piece (Sign c) 1 2 else braced rest (position (λ d. d == 0x7d) rest))
    else piece (Sign c) 1 1

-- a mark, and the index of the character at which it is written
pub record Placed : Type 0 where
  pub place : ℕ
  pub mark : Mark

abbrev pub placed : ℕ → Mark → Placed
placed place mark = record { place = place; mark = mark }

-- the marks of a text from an index on; characters to skip belong to the piece before
unfoldable pub marks_from : ℕ → ℕ → List ℕ → List Placed
marks_from skip place [] = []
marks_from (suc skip) place (c ∷ rest) = marks_from skip (place + 1) rest
marks_from zero place (c ∷ rest) =
    replicate (piece_of (c ∷ rest)).cells (placed place (piece_of (c ∷ rest)).mark)
    ++ marks_from ((piece_of (c ∷ rest)).size - 1) (place + 1) rest

abbrev pub marks_of : List ℕ → List Placed
marks_of text = marks_from 0 0 text
