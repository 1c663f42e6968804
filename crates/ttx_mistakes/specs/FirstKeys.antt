-- Where a key is first given that a TOML text gives twice (profile). Only `first_place` counts from the beginning of the text; in all other
-- definitions a place is the number of bytes from it to the end. An entry is a line of a text, or a member of an inline table.
--
--   after_token             the text after a string, or after another character outside of strings
--   entry_start, entry_end  the text from an entry on, and after it: at a comma or a brace in an inline table, or else at the end of a line
--   GivenKey, given_key     the key or the header of an entry: its path, its place, and whether it begins another table of an array
--   given_keys              those of a text, or of an inline table, up to a place
--   first_given             the place of the first with a path, in the same table
--   key_at, first_left      the key at a place; the place where it is first given, if it is given before
--   brackets, table_at      the brackets that are open at a place; the text, or the inline table that is open there
--   first_place             the place where the key at a place of a text is first given, if it is given before
use Rattle.std.specs.Prelude.{ℕ, zero, suc, ◌+◌, ◌-◌, Bool, ◌&&◌, ◌||◌, ◌==◌, nat_eq, nat_le, nat_lt, if◌then◌else◌, List, [], ◌∷◌, length, drop, slice_index, find, Option, Some, None, option_map, option_and_then, unwrap_or}
use Rattle.std.specs.Option.{option_or}
use Rattle.std.specs.Str.{bytes_eq}
use Rattle.std.specs.List.{starts_with}
use Rattle.toml_parser.specs.Lexical.{Read, comma, left_bracket, right_bracket, left_brace, right_brace, first, skip_ws, skip_blank}
use Rattle.toml_parser.specs.Strings.{Key, key, quoted, starts_string}
use Rattle.toml.specs.Parse.{ends_line, skip_bom}
use Rattle.ttx_places.specs.Paths.{key_path}

abbrev pub after_string : List ℕ → List ℕ
after_string text = unwrap_or (option_map (λ read. read.1) (quoted text)) []

-- an ASCII character; no other stands outside of strings and comments
abbrev pub is_ascii : ℕ → Bool
is_ascii c = nat_lt 0 c && nat_lt c 128

abbrev pub after_token : List ℕ → List ℕ
after_token text = if starts_string text then after_string text else if is_ascii (first text) then drop 1 text else []

abbrev pub is_opening : ℕ → Bool
is_opening c = (c == left_bracket) || (c == left_brace)

abbrev pub is_closing : ℕ → Bool
is_closing c = (c == right_bracket) || (c == right_brace)

-- how many brackets are open after a token that begins so
abbrev pub depth_after : ℕ → ℕ → ℕ
depth_after depth c = if is_opening c then depth + 1 else if is_closing c then depth - 1 else depth

-- the inside of the brackets that were opened last with so many open, where so many are open after a token
abbrev pub inside_after : ℕ → ℕ → List ℕ → List ℕ → List ℕ
inside_after wanted depth inside text = if is_opening (first text) && (depth == wanted) then drop 1 text else inside

-- the next token: within brackets after newlines and comments too
abbrev pub token_start : ℕ → List ℕ → List ℕ
token_start depth text = if depth == 0 then text else skip_blank text

abbrev pub ends_entry : Bool → List ℕ → Bool
ends_entry inline text =
    if inline then ((first text == comma) || (first text == right_brace)) || (length text == 0) else ends_line text

-- no bracket is open, and an entry ends here
abbrev pub ends_here : Bool → ℕ → List ℕ → Bool
ends_here inline depth text = (depth == 0) && ends_entry inline text

-- after fewer than n tokens
unfoldable pub entry_end : Bool → ℕ → ℕ → List ℕ → List ℕ
entry_end inline zero depth text = text
entry_end inline (suc n) depth text =
    let start = token_start depth text in
    if ends_here inline depth start then start
    else entry_end inline n (depth_after depth (first start)) (after_token start)

abbrev pub after_entry : Bool → List ℕ → List ℕ
after_entry inline text = entry_end inline (suc (length text)) 0 text

abbrev pub entry_start : List ℕ → List ℕ
entry_start text = skip_blank (if first text == comma then drop 1 text else text)

abbrev pub is_header : List ℕ → Bool
is_header text = first text == left_bracket

-- [[name]]
abbrev pub is_element : List ℕ → Bool
is_element text = is_header text && (slice_index text 1 == left_bracket)

-- the path of a key, if one can be read
abbrev pub path_of : List ℕ → Read Key → List ℕ
path_of section None = []
path_of section (Some read) = key_path section read.0

-- a header names its table from the root, any other entry a value in the table of the last header
abbrev pub entry_path : List ℕ → List ℕ → List ℕ
entry_path section text =
    if is_element text then path_of [] (key (skip_ws (drop 2 text)))
    else if is_header text then path_of [] (key (skip_ws (drop 1 text)))
    else path_of section (key text)

abbrev pub section_after : List ℕ → List ℕ → List ℕ → List ℕ
section_after section path text = if is_header text then path else section

pub record GivenKey : Type 0 where
  pub path : List ℕ
  pub left : ℕ
  pub element : Bool

abbrev pub given_at : List ℕ → ℕ → Bool → GivenKey
given_at path left element = record { path = path; left = left; element = element }

abbrev pub given_key : List ℕ → List ℕ → GivenKey
given_key section text = given_at (entry_path section text) (length text) (is_element text)

-- in the next n entries, as far as they begin before or at the place
unfoldable pub given_keys : Bool → ℕ → ℕ → List ℕ → List ℕ → List GivenKey
given_keys inline stop zero section text = []
given_keys inline stop (suc n) section text =
    let start = entry_start text in
    if nat_lt (length start) stop then []
    else given_key section start
    ∷ given_keys inline stop n (section_after section (entry_path section start) start) (after_entry inline start)

abbrev pub is_below : List ℕ → List ℕ → Bool
is_below path target = starts_with nat_eq target path && (slice_index target (length path) == 47)

-- another table of an array has keys of its own
abbrev pub found_after : List ℕ → GivenKey → Option ℕ → Option ℕ
found_after target k found =
    if bytes_eq k.path target then option_or found (Some k.left)
    else if k.element && is_below k.path target then None
    else found

abbrev pub first_given : List ℕ → List GivenKey → Option ℕ → Option ℕ
first_given target [] found = found
first_given target (k ∷ keys) found = first_given target keys (found_after target k found)

abbrev pub key_at : ℕ → List GivenKey → Option GivenKey
key_at stop keys = find (λ k. k.left == stop) keys

-- the place before this one
abbrev pub before : ℕ → ℕ → Option ℕ
before stop left = if nat_lt stop left then Some left else None

abbrev pub first_of : ℕ → List GivenKey → GivenKey → Option ℕ
first_of stop keys k = option_and_then (before stop) (first_given k.path keys None)

abbrev pub first_left : ℕ → List GivenKey → Option ℕ
first_left stop keys = option_and_then (first_of stop keys) (key_at stop keys)

abbrev pub keys_of : Bool → ℕ → List ℕ → List GivenKey
keys_of inline stop text = given_keys inline stop (suc (length text)) [] text

-- The brackets that are open at a place, of the next n tokens, and the text after the one that was opened last with so many open. With 0 it is
-- the text that is given.
unfoldable pub brackets : ℕ → ℕ → ℕ → ℕ → List ℕ → List ℕ → ℕ × List ℕ
brackets wanted stop zero depth inside text = (depth, inside)
brackets wanted stop (suc n) depth inside text =
    let start = skip_blank text in
    if nat_le (length start) stop then (depth, inside)
    else brackets wanted stop n (depth_after depth (first start)) (inside_after wanted (depth_after depth (first start)) inside start) (after_token start)

abbrev pub brackets_at : ℕ → ℕ → List ℕ → ℕ × List ℕ
brackets_at wanted stop text = brackets wanted stop (suc (length text)) 0 text text

-- the depth at a place, and the text or the inside of the innermost brackets
abbrev pub table_at : ℕ → List ℕ → ℕ × List ℕ
table_at stop text = brackets_at (brackets_at 0 stop text).0 stop text

abbrev pub table_keys : ℕ → ℕ × List ℕ → List GivenKey
table_keys stop table = keys_of (nat_lt 0 table.0) stop table.1

unfoldable pub first_place : List ℕ → ℕ → Option ℕ
first_place text place =
    let stop = length text - place in
    option_map (λ left. length text - left) (first_left stop (table_keys stop (table_at stop (skip_bom text))))
