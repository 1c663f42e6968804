-- The line and the column of a byte in a text, for people: both from 1, counted over the bytes before it.
--
--   line_after              one more than the line feeds
--   column_after            one more than the characters after the last line feed; a byte 10xxxxxx continues a character (UTF-8)
use Rattle.std.specs.Prelude.{ℕ, suc, ◌/◌, Bool, not, ◌==◌, if◌then◌else◌, List, [], ◌∷◌, length, filter}
use Rattle.std.specs.List.{list_any}

abbrev pub is_line_feed : ℕ → Bool
is_line_feed byte = byte == 10

abbrev pub begins_character : ℕ → Bool
begins_character byte = not (byte / 64 == 2)

abbrev pub how_many : (ℕ → Bool) → List ℕ → ℕ
how_many test text = length (filter test text)

abbrev pub line_after : List ℕ → ℕ
line_after before = suc (how_many is_line_feed before)

-- the bytes after the last line feed
abbrev pub last_line : List ℕ → List ℕ
last_line [] = []
last_line (byte ∷ text) = if list_any is_line_feed (byte ∷ text) then last_line text else byte ∷ text

abbrev pub column_after : List ℕ → ℕ
column_after before = suc (how_many begins_character (last_line before))
