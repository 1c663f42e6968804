-- Texts in HTML.
--
--   escaped, escaped_text   a reserved character as its entity, any other as itself; the same for a text
use Rattle.std.specs.Prelude.{ℕ, ◌==◌, List, codes, chars, flat_map, if◌then◌else◌, encode_utf8}

unfoldable pub escaped : ℕ → List ℕ
escaped c =
    if c == 60 then codes "&lt;"
    else if c == 62 then codes "&gt;"
    else if c == 38 then codes "&amp;"
    else if c == 34 then codes "&quot;"
    else if c == 39 then codes "&#39;"
    else encode_utf8 c

-- the characters that the bytes spell
unfoldable pub escaped_text : List ℕ → List ℕ
escaped_text bytes = flat_map escaped (chars bytes)
