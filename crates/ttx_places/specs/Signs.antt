-- The place of a character of a text in a TOML text: where the bytes that stand for it begin, after the quotation mark.
--
--   escape_size, utf8_size, sign_size   the bytes of an escape, of a character, and of what stands for the next character
--   after_signs             the text after a number of characters
--   is_long, character_place    a text in three quotation marks; the place of a character of a text
use Rattle.std.specs.Prelude.{ℕ, zero, suc, ◌+◌, ◌-◌, Bool, ◌&&◌, ◌==◌, nat_lt, if◌then◌else◌, List, length, drop, slice_index}
use Rattle.toml_parser.specs.Lexical.{quote, backslash, first}
use Rattle.toml_parser.specs.Strings.{hex_len}

-- a backslash, a letter and its hexadecimal digits
abbrev pub escape_size : ℕ → ℕ
escape_size letter = 2 + hex_len letter

-- a character in UTF-8, by its first byte
abbrev pub utf8_size : ℕ → ℕ
utf8_size byte = if nat_lt byte 192 then 1 else if nat_lt byte 224 then 2 else if nat_lt byte 240 then 3 else 4

-- in double quotation marks a backslash begins an escape
abbrev pub sign_size : Bool → List ℕ → ℕ
sign_size basic text = if basic && (first text == backslash) then escape_size (slice_index text 1) else utf8_size (first text)

abbrev pub after_signs : Bool → ℕ → List ℕ → List ℕ
after_signs basic zero text = text
after_signs basic (suc n) text = drop (sign_size basic (after_signs basic n text)) (after_signs basic n text)

abbrev pub is_long : List ℕ → Bool
is_long text = (slice_index text 0 == slice_index text 1) && (slice_index text 1 == slice_index text 2)

abbrev pub place_in : List ℕ → List ℕ → ℕ → ℕ → ℕ
place_in bytes text place index =
    if is_long text then place else length bytes - length (after_signs (first text == quote) index (drop 1 text))

-- the character with this index of the text at a place; in three quotation marks the text itself
unfoldable pub character_place : List ℕ → ℕ → ℕ → ℕ
character_place bytes place index = place_in bytes (drop place bytes) place index
