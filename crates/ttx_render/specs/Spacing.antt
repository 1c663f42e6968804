-- Spacing attributes (EN 300 706, 12.2): what each code from 00 to 1F sets, and from which column on.
--
--   spacing_of              what a code sets in itself
--   spacing_in              what it sets in its row and before its right neighbour
--   Effect                  its effect on one attribute
--   on_fore .. on_hold      its effect on each of the nine attributes
use Rattle.std.specs.Prelude.{ℕ, ◌-◌, Bool, true, false, ◌&&◌, ◌==◌, if◌then◌else◌, nat_le}
use Rattle.ttx_render.specs.Colours.{colour_of}
use Rattle.ttx_render.specs.declared.colour.Colour.{Colour}
use Rattle.ttx_render.specs.declared.colour.Colour.TheVariants.{Black}
use Rattle.ttx_render.specs.declared.spacing.Spacing.{Spacing}
use Rattle.ttx_render.specs.declared.spacing.Spacing.TheVariants.{Nothing, AlphaColour, MosaicColour, Flash, Steady, EndBox, StartBox}
use Rattle.ttx_render.specs.declared.spacing.Spacing.TheVariants.{NormalHeight, DoubleHeight, Conceal, Contiguous, Separated, BlackBackground}
use Rattle.ttx_render.specs.declared.spacing.Spacing.TheVariants.{NewBackground, HoldMosaics, ReleaseMosaics}

-- what a code sets in itself; 00, 0E, 0F, 10 and 1B set nothing (profile)
unfoldable pub spacing_of : ℕ → Spacing
spacing_of code =
    if nat_le 0x01 code && nat_le code 0x07 then AlphaColour (colour_of code)
    else if code == 0x08 then Flash
    else if code == 0x09 then Steady
    else if code == 0x0a then EndBox
    else if code == 0x0b then StartBox
    else if code == 0x0c then NormalHeight
    else if code == 0x0d then DoubleHeight
    else if nat_le 0x11 code && nat_le code 0x17 then MosaicColour (colour_of (code - 0x10))
    else if code == 0x18 then Conceal
    else if code == 0x19 then Contiguous
    else if code == 0x1a then Separated
    else if code == 0x1c then BlackBackground
    else if code == 0x1d then NewBackground
    else if code == 0x1e then HoldMosaics
    else if code == 0x1f then ReleaseMosaics
    else Nothing

-- A box code counts only if the next column has the same code.
-- A height code counts only in rows 1 to 22 (profile).
abbrev pub spacing_in : (tall paired : Bool) → Spacing → Spacing
spacing_in tall paired StartBox = if paired then StartBox else Nothing
spacing_in tall paired EndBox = if paired then EndBox else Nothing
spacing_in tall paired NormalHeight = if tall then NormalHeight else Nothing
spacing_in tall paired DoubleHeight = if tall then DoubleHeight else Nothing
spacing_in tall paired other = other

-- A code leaves an attribute unchanged, or sets it from its own column on (Set-At) or from the next column on (Set-After).
pub data Effect (A : Type 0) : Type 0 where
  Leaves : Effect A
  SetAt : (value : A) → Effect A
  SetAfter : (value : A) → Effect A

-- the foreground colour
abbrev pub on_fore : Spacing → Effect Colour
on_fore (AlphaColour fore) = SetAfter fore
on_fore (MosaicColour fore) = SetAfter fore
on_fore _ = Leaves

-- the background colour; `fore` is the foreground in force at the code's column
abbrev pub on_back : Colour → Spacing → Effect Colour
on_back fore BlackBackground = SetAt Black
on_back fore NewBackground = SetAt fore
on_back fore _ = Leaves

abbrev pub on_flash : Spacing → Effect Bool
on_flash Flash = SetAfter true
on_flash Steady = SetAt false
on_flash _ = Leaves

-- inside a box
abbrev pub on_boxed : Spacing → Effect Bool
on_boxed StartBox = SetAfter true
on_boxed EndBox = SetAfter false
on_boxed _ = Leaves

-- double height
abbrev pub on_double : Spacing → Effect Bool
on_double DoubleHeight = SetAfter true
on_double NormalHeight = SetAt false
on_double _ = Leaves

-- concealed, until a colour code
abbrev pub on_concealed : Spacing → Effect Bool
on_concealed Conceal = SetAt true
on_concealed (AlphaColour _) = SetAfter false
on_concealed (MosaicColour _) = SetAfter false
on_concealed _ = Leaves

-- mosaic mode; otherwise alphanumeric mode
abbrev pub on_mosaic : Spacing → Effect Bool
on_mosaic (AlphaColour _) = SetAfter false
on_mosaic (MosaicColour _) = SetAfter true
on_mosaic _ = Leaves

-- separated mosaics; otherwise contiguous ones
abbrev pub on_separated : Spacing → Effect Bool
on_separated Separated = SetAt true
on_separated Contiguous = SetAt false
on_separated _ = Leaves

-- hold mosaics; otherwise release
abbrev pub on_hold : Spacing → Effect Bool
on_hold HoldMosaics = SetAt true
on_hold ReleaseMosaics = SetAfter false
on_hold _ = Leaves
