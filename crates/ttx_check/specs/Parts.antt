-- Which part of a page a fault concerns: the first refused value, in the order in which they are read (profile).
--
--   Part, part_path, part_name    the whole page, the value at a key, a row by its key, or a link, counted from 1; its path, and its name
--   table_in, items_in, text_in   the table, the array or the text in a value; None if the value is not one
--   number_of, sub_of             what is read at the keys of a page's id
--   refused_row, wrong_key        the first refused row; the first key of rows that is not a row number
--   refused_link                  the first refused link
--   part_of                       the part of a page that a fault concerns
use Rattle.std.specs.Prelude.{ℕ, ◌+◌, Bool, List, [], ◌++◌, codes, find, Option, Some, None, Result, is_err, if◌then◌else◌}
use Rattle.std.specs.Fmt.{decimal}
use Rattle.std.specs.Str.{bytes_eq}
use Rattle.toml.specs.Data.{Data, Items, no_items, item, Members, no_members, member, get_member, as_str, as_array, as_table}
use Rattle.ttx_source.specs.Values.{Fault, not_toml, missing, wrong_kind, wrong_page_number, wrong_subcode, duplicate, too_long, wrong_character}
use Rattle.ttx_source.specs.Values.{wrong_often, out_of_range, no_memory, ◌>>=◌, required, with_default, page_number, subcode}
use Rattle.ttx_places.specs.Paths.{below}
use Rattle.ttx_source.specs.Keys.{head, row_of, row_keys, is_row_key, link_of, zeros}

pub data Part : Type 0 where
  whole : Part
  at_key : (key : List ℕ) → Part
  at_row : (key : List ℕ) → Part
  at_link : (number : ℕ) → Part

-- given the path of the page
abbrev pub part_path : List ℕ → Part → List ℕ
part_path path whole = path
part_path path (at_key key) = below path key
part_path path (at_row key) = below (below path (codes "rows")) key
part_path path (at_link number) = below (below path (codes "links")) (decimal number)

-- the name after that of the page
abbrev pub part_name : Part → List ℕ
part_name whole = []
part_name (at_key key) = codes " " ++ key
part_name (at_row key) = codes " row " ++ key
part_name (at_link number) = codes " link " ++ decimal number

abbrev pub text_in : Option Data → Option (List ℕ)
text_in None = None
text_in (Some value) = as_str value

abbrev pub table_in : Option Data → Option Members
table_in None = None
table_in (Some value) = as_table value

abbrev pub items_or_none : Option Items → Items
items_or_none None = no_items
items_or_none (Some values) = values

abbrev pub items_in : Option Data → Items
items_in None = no_items
items_in (Some value) = items_or_none (as_array value)

-- what is read at the keys `number` and `sub`
abbrev pub number_of : Members → Result (ℕ × ℕ) Fault
number_of page = required (codes "number") as_str page >>= page_number

abbrev pub sub_of : Members → Result ℕ Fault
sub_of page = with_default (codes "sub") as_str zeros page >>= subcode

abbrev pub is_row_refused : Members → List ℕ → Bool
is_row_refused rows key = is_err (row_of (get_member key rows))

unfoldable pub refused_row : Members → Option (List ℕ)
refused_row rows = find (is_row_refused rows) row_keys

abbrev pub wrong_key : Members → Option (List ℕ)
wrong_key no_members = None
wrong_key (member key value rows) = if is_row_key key then wrong_key rows else Some key

-- the first link of the list has this number
abbrev pub refused_link : ℕ → Items → Option ℕ
refused_link number no_items = None
refused_link number (item value values) = if is_err (link_of value) then Some number else refused_link (number + 1) values

-- a row, or `rows` if there is none
abbrev pub row_or_rows : Option (List ℕ) → Part
row_or_rows None = at_key (codes "rows")
row_or_rows (Some key) = at_row key

abbrev pub refused_in : Option Members → Option (List ℕ)
refused_in None = None
refused_in (Some rows) = refused_row rows

abbrev pub wrong_in : Option Members → Option (List ℕ)
wrong_in None = None
wrong_in (Some rows) = wrong_key rows

abbrev pub rows_part : Members → Part
rows_part page = row_or_rows (refused_in (table_in (get_member (codes "rows") page)))

-- a link, or `links` if there is none
abbrev pub link_or_links : Option ℕ → Part
link_or_links None = at_key (codes "links")
link_or_links (Some number) = at_link number

abbrev pub links_part : Members → Part
links_part page = link_or_links (refused_link 1 (items_in (get_member (codes "links") page)))

-- the refused text of a page; the next two: the refused page number or subcode, of the page or of a link
abbrev pub text_part : Members → Part
text_part page = if is_err (head page) then at_key (codes "head") else rows_part page

abbrev pub number_part : Members → Part
number_part page = if is_err (number_of page) then at_key (codes "number") else links_part page

abbrev pub sub_part : Members → Part
sub_part page = if is_err (sub_of page) then at_key (codes "sub") else links_part page

-- the value of a wrong kind at this key, or in it
abbrev pub kind_part : List ℕ → Members → Part
kind_part key page =
    if bytes_eq key (codes "rows") then rows_part page else if bytes_eq key (codes "links") then links_part page else at_key key

-- the value out of range at this key; in `rows` the key out of range
abbrev pub range_part : List ℕ → Members → Part
range_part key page =
    if bytes_eq key (codes "rows") then row_or_rows (wrong_in (table_in (get_member (codes "rows") page))) else at_key key

abbrev pub part_of : Fault → Members → Part
part_of (missing key) page = whole
part_of (wrong_kind key) page = kind_part key page
part_of wrong_page_number page = number_part page
part_of wrong_subcode page = sub_part page
part_of duplicate page = at_key (codes "number")
part_of too_long page = text_part page
part_of wrong_character page = text_part page
part_of wrong_often page = at_key (codes "often")
part_of (out_of_range key) page = range_part key page
part_of not_toml page = whole
part_of no_memory page = whole
