-- Unknown keys of a service text (profile).
--
--   service_keys, info_keys, page_keys      the known keys, in the order of docs/SERVICE.md
--   edits, far_name, meant    how far a key is from a name; the name that was probably meant
--   home_of, hint           where a key stands that another table has; that, or the name that was probably meant
--   visible_code, key_words, key_line    a key as it is printed; the words about it; its line
--   unknown_lines           the lines about a table
--   key_lines               the lines about a text with these pages
use Rattle.std.specs.Prelude.{ℕ, Bool, ◌&&◌, nat_le, nat_lt, nat_eq, if◌then◌else◌, List, [], ◌∷◌, ◌++◌, codes, length, map, find, Option, Some, None}
use Rattle.std.specs.List.{list_any}
use Rattle.std.specs.Str.{bytes_eq, chars}
use Rattle.strsim.specs.Edits.{levenshtein_row}
use Rattle.toml.specs.Data.{Data, Items, no_items, item, Members, no_members, member, get_member, as_array, as_table}
use Rattle.ttx_page.specs.Pages.{Page}
use Rattle.ttx_source.specs.Keys.{is_row_key}
use Rattle.ttx_check.specs.WarningLines.{page_text}

unfoldable pub service_keys : List (List ℕ)
service_keys = codes "lines" ∷ codes "serial" ∷ codes "info" ∷ codes "page" ∷ []

unfoldable pub info_keys : List (List ℕ)
info_keys =
    codes "designation" ∷ codes "initial" ∷ codes "network" ∷ codes "halves" ∷ codes "mjd" ∷ codes "utc" ∷ codes "text" ∷ []

unfoldable pub page_keys : List (List ℕ)
page_keys =
    codes "number" ∷ codes "sub" ∷ codes "often" ∷ codes "within" ∷ codes "stays" ∷ codes "option" ∷ codes "newsflash" ∷ codes "subtitle" ∷ codes "suppress"
    ∷ codes "update" ∷ codes "interrupted" ∷ codes "inhibit" ∷ codes "head" ∷ codes "rows" ∷ codes "links" ∷ codes "row24" ∷ codes "crc" ∷ []

abbrev pub is_one_of : List (List ℕ) → List ℕ → Bool
is_one_of names key = list_any (λ name. bytes_eq name key) names

-- characters inserted, left out or changed
abbrev pub edits : List ℕ → List ℕ → ℕ
edits a b = levenshtein_row nat_eq (chars a) (chars b) (length (chars b))

abbrev pub is_near_name : ℕ → List ℕ → List ℕ → Bool
is_near_name most key name = nat_le (edits key name) most

abbrev pub or_else : {A : Type 0} → Option A → Option A → Option A
or_else None b = b
or_else (Some a) b = Some a

-- for a key of five bytes or more the first name that is at most two edits away
abbrev pub far_name : List (List ℕ) → List ℕ → Option (List ℕ)
far_name names key = if nat_lt (length key) 5 then None else find (is_near_name 2 key) names

-- the first name that is at most one edit away, otherwise that of far_name; None for a key of more than 16 bytes
unfoldable pub meant : List (List ℕ) → List ℕ → Option (List ℕ)
meant names key = if nat_lt 16 (length key) then None else or_else (find (is_near_name 1 key) names) (far_name names key)

-- a byte of a key, as it is printed: a question mark unless it is a visible ASCII character
abbrev pub visible_code : ℕ → ℕ
visible_code code = if nat_le 33 code && nat_le code 126 then code else 63

abbrev pub meant_text : Option (List ℕ) → List ℕ
meant_text None = []
meant_text (Some name) = codes ": is it " ++ name ++ codes "?"

-- where a key stands that another table has
unfoldable pub home_of : List ℕ → List ℕ
home_of key =
    if is_one_of page_keys key then codes ": it stands in [[page]], above [page.rows]"
    else if is_one_of service_keys key then codes ": it stands above [info] and [[page]]"
    else if is_row_key key then codes ": it stands in [page.rows]"
    else if is_one_of info_keys key then codes ": it stands in [info]"
    else []

abbrev pub text_or_else : List ℕ → List ℕ → List ℕ
text_or_else [] other = other
text_or_else (c ∷ text) other = c ∷ text

-- where the key stands, otherwise the name that was probably meant
abbrev pub hint : List (List ℕ) → List ℕ → List ℕ
hint names key = text_or_else (home_of key) (meant_text (meant names key))

-- the words about a key that is not one of these names
unfoldable pub key_words : List (List ℕ) → List ℕ → List ℕ
key_words names key = codes ": no key " ++ map visible_code key ++ hint names key

unfoldable pub key_line : List ℕ → List (List ℕ) → List ℕ → List ℕ
key_line place names key = codes "warning " ++ place ++ key_words names key ++ 10 ∷ []

unfoldable pub key_text : List ℕ → List (List ℕ) → List ℕ → List ℕ
key_text place names key = if is_one_of names key then [] else key_line place names key

-- the lines about the table at a place, whose known keys are these names; the keys are in the order of their bytes
abbrev pub unknown_lines : List ℕ → List (List ℕ) → Members → List ℕ
unknown_lines place names no_members = []
unknown_lines place names (member key value table) = key_text place names key ++ unknown_lines place names table

abbrev pub table_lines : List ℕ → List (List ℕ) → Option Members → List ℕ
table_lines place names None = []
table_lines place names (Some table) = unknown_lines place names table

abbrev pub value_lines : List ℕ → List (List ℕ) → Option Data → List ℕ
value_lines place names None = []
value_lines place names (Some value) = table_lines place names (as_table value)

-- the lines about the tables of pages
abbrev pub items_lines : Items → List Page → List ℕ
items_lines no_items pages = []
items_lines (item value values) [] = []
items_lines (item value values) (p ∷ pages) = table_lines (page_text p.id) page_keys (as_table value) ++ items_lines values pages

abbrev pub array_lines : Option Items → List Page → List ℕ
array_lines None pages = []
array_lines (Some values) pages = items_lines values pages

abbrev pub page_key_lines : Option Data → List Page → List ℕ
page_key_lines None pages = []
page_key_lines (Some value) pages = array_lines (as_array value) pages

abbrev pub key_lines : Members → List Page → List ℕ
key_lines table pages =
    unknown_lines (codes "service") service_keys table ++ value_lines (codes "info") info_keys (get_member (codes "info") table)
    ++ page_key_lines (get_member (codes "page") table) pages
