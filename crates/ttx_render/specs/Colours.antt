-- The eight colours and their numbers (EN 300 706, 12.2).
use Rattle.std.specs.Prelude.{ℕ, [], ◌∷◌, slice_index_or}
use Rattle.ttx_render.specs.declared.colour.Colour.{Colour}
use Rattle.ttx_render.specs.declared.colour.Colour.TheVariants.{Black, Red, Green, Yellow, Blue, Magenta, Cyan, White}

-- the colour with this number, 0 to 7
unfoldable pub colour_of : ℕ → Colour
colour_of number = slice_index_or (Black ∷ Red ∷ Green ∷ Yellow ∷ Blue ∷ Magenta ∷ Cyan ∷ []) number White

abbrev pub colour_number : Colour → ℕ
colour_number Black = 0
colour_number Red = 1
colour_number Green = 2
colour_number Yellow = 3
colour_number Blue = 4
colour_number Magenta = 5
colour_number Cyan = 6
colour_number White = 7
