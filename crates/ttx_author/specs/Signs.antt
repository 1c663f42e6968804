-- The characters that an author writes for codes 20 to 7F.
--
--   block_character         the character for the six blocks of a mosaic
--   sign                    the character that stands for a code
--   code_of                 the code that a character stands for
--   has_character           whether a national option has a character
use Rattle.std.specs.Prelude.{ℕ, ◌+◌, ◌*◌, ◌/◌, ◌%◌, ◌-◌, Bool, false, ◌&&◌, ◌==◌, if◌then◌else◌, Option, nat_lt, find, is_some}
use Rattle.std.specs.List.{range_with_len}
use Rattle.ttx_charset.specs.Glyphs.{glyph}
use Rattle.ttx_render.specs.Mosaics.{has_blocks}

-- 1 if the number is above the bound
abbrev pub over : ℕ → ℕ → ℕ
over bound n = if nat_lt bound n then 1 else 0

-- Unicode's block mosaics: a space, the sextants from U+1FB00 on, the left half (21), the right half (42) and the full block (63)
unfoldable pub block_character : ℕ → ℕ
block_character blocks =
    if blocks == 0 then 0x20
    else if blocks == 21 then 0x258c
    else if blocks == 42 then 0x2590
    else if blocks == 63 then 0x2588
    else 0x1faff + blocks - over 21 blocks - over 42 blocks

-- in mosaic mode a code with bit 6 shows six blocks; every other code shows the character of the national option
unfoldable pub sign : Bool → ℕ → ℕ → ℕ
sign mosaic option code =
    if mosaic && has_blocks code then block_character (code % 32 + 32 * (code / 64 % 2)) else glyph option code

-- the code from 20 to 7F that shows the character in this mode, under this option
unfoldable pub code_of : Bool → ℕ → ℕ → Option ℕ
code_of mosaic option character = find (λ code. sign mosaic option code == character) (range_with_len 0x20 96)

-- whether a letter, digit or other character can be shown under the option, outside mosaic mode
abbrev pub has_character : ℕ → ℕ → Bool
has_character option character = is_some (code_of false option character)
