-- Paths of values in a TOML text, as texts: a slash before each key and before the number of each element, as in /page/3/rows/4. In a part
-- `~` is written `~0` and a slash `~1`, so that a path has one meaning (paths_are_unique). Decimal digits stand for themselves.
--
--   escape, escaped         a byte of a part, and a part, as a path has them
--   below                   a path with one more part
--   under, key_path         the path of the value at a key, which may have dots
--   page_path               the path of a page, counted from 1
--   named, all_named, table_path      the table that a header names
use Rattle.std.specs.Prelude.{ℕ, List, [], ◌∷◌, ◌++◌, ◌==◌, codes, flat_map, if◌then◌else◌}
use Rattle.std.specs.Fmt.{decimal}
use Rattle.std.specs.Str.{bytes_eq}
use Rattle.toml_parser.specs.Strings.{Key}

abbrev pub escape : ℕ → List ℕ
escape byte = if byte == 126 then codes "~0" else if byte == 47 then codes "~1" else byte ∷ []

unfoldable pub escaped : List ℕ → List ℕ
escaped part = flat_map escape part

abbrev pub below : List ℕ → List ℕ → List ℕ
below path part = path ++ 47 ∷ escaped part

abbrev pub under : List ℕ → List (List ℕ) → List ℕ
under path [] = path
under path (part ∷ parts) = under (below path part) parts

abbrev pub key_path : List ℕ → Key → List ℕ
key_path path key = below (under path key.0) key.1

abbrev pub page_path : ℕ → List ℕ
page_path page = below (codes "/page") (decimal page)

-- a part of the name of a table after a number of tables [[page]]: page means the latest of them
abbrev pub named : ℕ → List ℕ → List ℕ → List ℕ
named pages path part = below (if bytes_eq path (codes "/page") then below path (decimal pages) else path) part

abbrev pub all_named : ℕ → List ℕ → List (List ℕ) → List ℕ
all_named pages path [] = path
all_named pages path (part ∷ parts) = all_named pages (named pages path part) parts

abbrev pub table_path : ℕ → Key → List ℕ
table_path pages key = named pages (all_named pages [] key.0) key.1
