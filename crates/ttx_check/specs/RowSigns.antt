-- What in the characters of a row probably looks other than it is written (12.2; what is reported is profile).
--
--   mosaic_after, is_character    whether mosaics are shown after a code; a code that shows a character
--   is_other, OtherCode, other_code    a code that shows another character than in ASCII; the first in a row, with its column
--   is_plain                a code that shows itself under each option, and is part of no box and no escape
--   is_hex, is_escape, has_escape       an escape of TOML, as characters
--   is_open                 a box that the row does not end
use Rattle.std.specs.Prelude.{ℕ, ◌+◌, Bool, true, false, not, ◌&&◌, ◌||◌, ◌==◌, nat_lt, nat_le, if◌then◌else◌, List, [], ◌∷◌, length, slice_index, Option, Some, None}
use Rattle.ttx_charset.specs.Glyphs.{glyph}

-- 00 to 07 are colours of characters, 10 to 17 of mosaics
abbrev pub mosaic_after : Bool → ℕ → Bool
mosaic_after mosaic code = if nat_lt code 8 then false else (nat_le 16 code && nat_lt code 24) || mosaic

-- 20 to 7E; among mosaics 40 to 5F alone
abbrev pub is_character : Bool → ℕ → Bool
is_character mosaic code = if mosaic then nat_le 64 code && nat_lt code 96 else nat_le 32 code && nat_lt code 127

abbrev pub is_other : ℕ → Bool → ℕ → Bool
is_other option mosaic code = is_character mosaic code && not (glyph option code == code)

-- a column, the code there, and the character that it shows
abbrev pub OtherCode : Type 0
OtherCode = ℕ × ℕ × ℕ

-- the first in a row, whose first code has this column
abbrev pub other_from : ℕ → Bool → ℕ → List ℕ → Option OtherCode
other_from option mosaic column [] = None
other_from option mosaic column (c ∷ row) =
    if is_other option mosaic c then Some (column, c, glyph option c) else other_from option (mosaic_after mosaic c) (column + 1) row

-- a row begins with characters
abbrev pub other_code : ℕ → List ℕ → Option OtherCode
other_code option row = other_from option false 0 row

-- none of the places of a national set, no backslash (5C is such a place), no start box code and not 7F
abbrev pub is_plain : ℕ → Bool
is_plain c =
    not ((c == 11) || (c == 35) || (c == 36) || (c == 64)) && (nat_lt c 91 || (nat_le 97 c && nat_lt c 123))

abbrev pub is_hex : ℕ → Bool
is_hex c = (nat_le 48 c && nat_lt c 58) || ((nat_le 65 c && nat_lt c 71) || (nat_le 97 c && nat_lt c 103))

-- a backslash, u and four hexadecimal digits
unfoldable pub is_escape : List ℕ → Bool
is_escape row =
    ((nat_le 6 (length row) && (slice_index row 0 == 92)) && ((slice_index row 1 == 117) && is_hex (slice_index row 2)))
    && ((is_hex (slice_index row 3) && is_hex (slice_index row 4)) && is_hex (slice_index row 5))

abbrev pub has_escape : List ℕ → Bool
has_escape [] = false
has_escape (c ∷ row) = is_escape (c ∷ row) || has_escape row

-- a box starts at two codes 0B and ends at two codes 0A, next to each other; the flag: inside a box; the code before
abbrev pub boxed_after : Bool → ℕ → ℕ → Bool
boxed_after boxed before code =
    if (before == 11) && (code == 11) then true else not ((before == 10) && (code == 10)) && boxed

abbrev pub is_open_after : Bool → ℕ → List ℕ → Bool
is_open_after boxed before [] = boxed
is_open_after boxed before (c ∷ row) = is_open_after (boxed_after boxed before c) c row

abbrev pub is_open : List ℕ → Bool
is_open row = is_open_after false 0 row
