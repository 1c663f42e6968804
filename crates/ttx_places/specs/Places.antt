-- The place of a path in a TOML text: the first value, element or header with this path, by the grammar of the kit's crate toml. Only
-- `place_of` counts from the beginning of the text; in all other definitions a place is the number of bytes from it to the end.
--
--   here                    whether the value that begins here has the target's path
--   value, elements, members, pair    a value, the elements of an array, the members of an inline table, a key and its value
--   Tables                  the path of the table of the latest header, and the number of tables [[page]]
--   next_table, header, line      a header, or a key and its value
--   lines, place_of         all lines of a text
use Rattle.std.specs.Prelude.{ℕ, zero, suc, ◌+◌, ◌-◌, ◌==◌, if◌then◌else◌, List, [], length, drop, slice_index, codes, Option, Some, None, option_map, option_and_then}
use Rattle.std.specs.Option.{option_or}
use Rattle.std.specs.Fmt.{decimal}
use Rattle.std.specs.Str.{bytes_eq}
use Rattle.toml_parser.specs.Lexical.{Read, left_bracket, right_bracket, left_brace, right_brace, first, skip_blank}
use Rattle.toml_parser.specs.Strings.{Key, recursion_limit}
use Rattle.toml.specs.Parse.{read_map, after_byte, after_element, key_equals, atom, header_key, skip_bom}
use Rattle.ttx_places.specs.Paths.{below, key_path, table_path}

infixl 10 ◌>>=◌
abbrev ◌>>=◌ : {A B : Type 0} → Option A → (A → Option B) → Option B
o >>= f = option_and_then f o

-- a place, if there is one
abbrev pub Place : Type 0
Place = Option ℕ

abbrev pub first_of : Place → Place → Place
first_of one later = option_or one later

-- a place that was found before, and what was read after it
abbrev pub after_place : Place → Read Place → Read Place
after_place place r = read_map (first_of place) r

-- the place that was found, otherwise the later one
abbrev pub or_later : Place → Option Place → Option Place
or_later None later = later
or_later (Some place) later = Some (Some place)

abbrev pub here : List ℕ → List ℕ → List ℕ → Place
here target path text = if bytes_eq path target then Some (length text) else None

-- the text after a string, a number, a boolean or a date
abbrev pub after_atom : List ℕ → Option (List ℕ)
after_atom text = option_map (λ a. a.1) (atom text)

abbrev pub plain : List ℕ → List ℕ → List ℕ → Read Place
plain target path text = option_map (λ rest. (here target path text, rest)) (after_atom text)

-- a key with its value; the key extends the path
abbrev pub pair : (List ℕ → List ℕ → Read Place) → List ℕ → List ℕ → Read Place
pair value path text = key_equals text >>= (λ k. value (key_path path k.0) k.1)

-- the elements of an array from this number on, of which fewer than n are left
unfoldable pub elements : (List ℕ → List ℕ → Read Place) → ℕ → ℕ → List ℕ → Place → List ℕ → Read Place
elements value zero number path found text = None
elements value (suc n) number path found text =
    let start = skip_blank text in
    if first start == right_bracket then Some (found, drop 1 start)
    else value (below path (decimal number)) start
    >>= (λ v. after_element right_bracket v.1 >>= elements value n (number + 1) path (first_of found v.0))

-- the members of an inline table
unfoldable pub members : (List ℕ → List ℕ → Read Place) → ℕ → List ℕ → Place → List ℕ → Read Place
members value zero path found text = None
members value (suc n) path found text =
    let start = skip_blank text in
    if first start == right_brace then Some (found, drop 1 start)
    else pair value path start >>= (λ v. after_element right_brace v.1 >>= members value n path (first_of found v.0))

-- a value with this path, with arrays and inline tables at most this deep
unfoldable pub value : List ℕ → ℕ → List ℕ → List ℕ → Read Place
value target zero path text = plain target path text
value target (suc depth) path text =
    if first text == left_bracket
    then after_place (here target path text) (elements (value target depth) (length text) 1 path None (drop 1 text))
    else if first text == left_brace
    then after_place (here target path text) (members (value target depth) (length text) path None (drop 1 text))
    else plain target path text

-- the path of the table of the latest header, and the number of tables [[page]] so far
abbrev pub Tables : Type 0
Tables = List ℕ × ℕ

-- [[name]]: another table with this name; those of pages are counted
abbrev pub next_table : ℕ → List ℕ → Tables
next_table pages path = if bytes_eq path (codes "/page") then (below path (decimal (pages + 1)), pages + 1) else (path, pages)

-- [name] or [[name]]
unfoldable pub header : ℕ → List ℕ → Read Tables
header pages text =
    if slice_index text 1 == left_bracket
    then header_key (drop 2 text) >>= (λ k. option_map (λ rest. (next_table pages (table_path pages k.0), rest)) (after_byte right_bracket k.1))
    else read_map (λ key. (table_path pages key, pages)) (header_key (drop 1 text))

-- a header, or a key with its value
unfoldable pub line : List ℕ → Tables → List ℕ → Read (Place × Tables)
line target tables text =
    if first text == left_bracket then read_map (λ next. (here target next.0 text, next)) (header tables.1 text)
    else read_map (λ place. (place, tables)) (pair (value target recursion_limit) tables.0 text)

-- the first place in the lines from here on; n is more than their number
unfoldable pub lines : List ℕ → ℕ → Tables → List ℕ → Option Place
lines target zero tables text = None
lines target (suc n) tables text =
    let start = skip_blank text in
    if length start == 0 then Some None
    else line target tables start >>= (λ l. or_later l.0.0 (lines target n l.0.1 l.1))

-- the place of this path, if the text has one; None: the text cannot be read that far
unfoldable pub place_of : List ℕ → List ℕ → Option Place
place_of target text =
    option_map (option_map (λ left. length text - left)) (lines target (suc (length (skip_bom text))) ([], 0) (skip_bom text))
