-- Page numbers as MPP, a magazine and two hexadecimal digits, and page ids as MPP/SSSS, with the four digits of the subcode
-- (profile).
--
--   id_text                 the text of an id
--   is_id_word, id_in_word  the id that a word stands for
--   first_number            the magazine and the page number from the first three characters
use Rattle.std.specs.Prelude.{ℕ, ◌+◌, ◌-◌, ◌*◌, ◌/◌, ◌%◌, Bool, not, ◌&&◌, ◌==◌, nat_le, List, ◌∷◌, ◌++◌, length, slice_index}
use Rattle.std.specs.Prelude.{Option, Some, None, if◌then◌else◌}
use Rattle.ttx_header.specs.Ids.{Id, id_at}
use Rattle.ttx_digits.specs.Digits.{hex_byte, is_between, is_hex, hex_pair, two_digits}

-- magazine and two digits, a slash, and the four digits of the subcode
abbrev pub id_text : Id → List ℕ
id_text id = (48 + id.mag) ∷ hex_byte id.page ++ 47 ∷ hex_byte (id.sub / 256) ++ hex_byte (id.sub % 256)

-- a magazine, 1 to 8, two hexadecimal digits, a slash and four hexadecimal digits
abbrev pub is_id_word : List ℕ → Bool
is_id_word word =
    (length word == 8) && is_between 49 56 (slice_index word 0) && is_hex (slice_index word 1) && is_hex (slice_index word 2)
    && (slice_index word 3 == 47)
    && is_hex (slice_index word 4) && is_hex (slice_index word 5) && is_hex (slice_index word 6) && is_hex (slice_index word 7)

abbrev pub id_in_word : List ℕ → Option Id
id_in_word word = if is_id_word word then Some (id_at (slice_index word 0 - 48) (hex_pair word 1) (256 * hex_pair word 4 + hex_pair word 6)) else None

-- page FF is refused
abbrev pub numbered : ℕ → Option ℕ → Option (ℕ × ℕ)
numbered mag None = None
numbered mag (Some page) = if (nat_le 49 mag && nat_le mag 56) && not (page == 0xff) then Some (mag - 48, page) else None

unfoldable pub first_number : List ℕ → Option (ℕ × ℕ)
first_number text = numbered (slice_index text 0) (two_digits text 1)
