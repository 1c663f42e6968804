-- The names of control codes.
--
--   names           the name of each code, 00 to 1F, in order; then those of the two boxes
--   tag_at          the tag at an index among the names
--   tag_of          the tag with a name
use Rattle.std.specs.Prelude.{ℕ, ◌-◌, List, [], ◌∷◌, codes, Option, option_map, nat_lt, if◌then◌else◌}
use Rattle.std.specs.List.{position}
use Rattle.std.specs.Str.{bytes_eq}
use Rattle.ttx_author.specs.declared.tags.Tag.{Tag}

-- Codes that set nothing at Level 1, and single box codes, go by their number.
unfoldable pub names : List (List ℕ)
names =
    codes "00" ∷ codes "red" ∷ codes "green" ∷ codes "yellow" ∷ codes "blue" ∷ codes "magenta" ∷ codes "cyan" ∷ codes "white"
    ∷ codes "flash" ∷ codes "steady" ∷ codes "0A" ∷ codes "0B" ∷ codes "normal" ∷ codes "double" ∷ codes "0E" ∷ codes "0F"
    ∷ codes "10" ∷ codes "mosaic red" ∷ codes "mosaic green" ∷ codes "mosaic yellow" ∷ codes "mosaic blue" ∷ codes "mosaic magenta"
    ∷ codes "mosaic cyan" ∷ codes "mosaic white" ∷ codes "conceal" ∷ codes "contiguous" ∷ codes "separated" ∷ codes "1B"
    ∷ codes "black background" ∷ codes "new background" ∷ codes "hold" ∷ codes "release" ∷ codes "/box" ∷ codes "box" ∷ []

-- the tag at an index: the code of this number, in one cell; at 32 and 33 a box code, 0A or 0B, in two
abbrev pub tag_at : ℕ → Tag
tag_at index = if nat_lt index 32 then record { code = index; cells = 1 } else record { code = index - 22; cells = 2 }

-- the tag with this name
unfoldable pub tag_of : List ℕ → Option Tag
tag_of name = option_map tag_at (position (λ known. bytes_eq known name) names)
