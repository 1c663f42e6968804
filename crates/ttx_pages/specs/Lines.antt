-- The lines of `pages`.
--
--   quoted, quoted_text     characters in quotation marks
--   counts_text, quoted_line    the parts of a line: how often each part is sent, and the characters of a header
--   listed_line             the line of a page
use Rattle.std.specs.Prelude.{ℕ, ◌||◌, ◌==◌, ◌%◌, List, [], ◌∷◌, ◌++◌, codes, nat_lt, if◌then◌else◌}
use Rattle.std.specs.Fmt.{decimal}
use Rattle.ttx_code.specs.Words.{is_odd}
use Rattle.ttx_digits.specs.ControlNames.{control_text}
use Rattle.ttx_header.specs.Ids.{Id}
use Rattle.ttx_digits.specs.Digits.{hex_byte}
use Rattle.ttx_digits.specs.PageIds.{id_text}

-- a character as itself; after a backslash if it would end the text or begin an escape; as \x and its number if it is not visible
abbrev pub character : ℕ → List ℕ
character c =
    if (c == 34) || (c == 92) then 92 ∷ c ∷ []
    else if nat_lt c 32 || (c == 127) then codes "\\x" ++ hex_byte c
    else c ∷ []

-- a byte of even parity is not a character
unfoldable pub quoted : ℕ → List ℕ
quoted b = if is_odd b then character (b % 128) else codes "\\?"

abbrev pub quoted_text : List ℕ → List ℕ
quoted_text [] = []
quoted_text (b ∷ bytes) = quoted b ++ quoted_text bytes

unfoldable pub counts_text : ℕ → ℕ → ℕ → List ℕ
counts_text times rows links = codes " sent " ++ decimal times ++ codes " rows " ++ decimal rows ++ (if links == 0 then [] else codes " links")

unfoldable pub quoted_line : List ℕ → List ℕ
quoted_line bytes = codes " \"" ++ quoted_text bytes ++ codes "\"\n"

-- a page that is sent so many times, with so many rows and packets X/27/0, and the control bits and characters of one of its headers
unfoldable pub listed_line : Id → ℕ → ℕ → ℕ → ℕ → List ℕ → List ℕ
listed_line id times rows links control text = id_text id ++ counts_text times rows links ++ control_text control ++ quoted_line text
