-- How a text begins.
--
--   is_white, is_bare       white space, or a bracket before the name of a table; the letters of a bare key
--   after_mark, after_blank the bytes after a byte order mark; after white space, opening brackets and comments
--   text_of                 a TOML text from its first key or table on
--   begins_with, has_key    bytes begin with a word; with a key, and with no longer one
use Rattle.std.specs.Prelude.{ℕ, Bool, true, false, not, ◌&&◌, ◌||◌, ◌==◌, eqb, nat_le, if◌then◌else◌, List, [], ◌∷◌, length, drop, slice_get, Option, Some, None}
use Rattle.std.specs.List.{starts_with}

abbrev pub is_white : ℕ → Bool
is_white b = (b == 32) || (b == 9) || (b == 10) || (b == 13) || (b == 91)

abbrev pub is_in : ℕ → ℕ → ℕ → Bool
is_in low high b = nat_le low b && nat_le b high

abbrev pub is_bare : ℕ → Bool
is_bare b = is_in 65 90 b || is_in 97 122 b || is_in 48 57 b || (b == 45) || (b == 95)

-- a key ends before a byte that is no letter of it, or with the text
abbrev pub is_end : Option ℕ → Bool
is_end None = true
is_end (Some b) = not (is_bare b)

abbrev pub begins_with : List ℕ → List ℕ → Bool
begins_with bytes word = starts_with eqb bytes word

abbrev pub after_mark : List ℕ → List ℕ
after_mark bytes = if begins_with bytes (239 ∷ 187 ∷ 191 ∷ []) then drop 3 bytes else bytes

-- by whether the bytes begin within a comment, which ends with its line
unfoldable pub after_blank : Bool → List ℕ → List ℕ
after_blank is_comment [] = []
after_blank true (b ∷ rest) = after_blank (not (b == 10)) rest
after_blank false (b ∷ rest) = if b == 35 then after_blank true rest else if is_white b then after_blank false rest else b ∷ rest

abbrev pub text_of : List ℕ → List ℕ
text_of bytes = after_blank false (after_mark bytes)

abbrev pub has_key : List ℕ → List ℕ → Bool
has_key bytes key = begins_with bytes key && is_end (slice_get bytes (length key))
