-- All mistakes for which a service text is refused (profile), where reading reports the first one.
--
--   Mistake                 what is refused: in a page, counted from 1, or outside pages, 0; in which part; and why
--   fault_in, at            the fault of what is read, if it is refused; its mistake
--   key_fault, key_mistakes the fault of the value at a key of `info` or of a page; the mistakes at some keys
--   row_mistakes, link_mistakes     the mistakes in the rows and in the links of a page
--   read_id, is_again       the id of a page; whether an earlier page has it
--   page_mistakes, pages_mistakes   the mistakes in a page, and in all pages
--   mistakes                those of a text, in the order in which it is read
use Rattle.std.specs.Prelude.{ℕ, ◌+◌, Bool, false, nat_lt, if◌then◌else◌, List, [], ◌∷◌, ◌++◌, codes, Option, Some, None, Result, Ok, Err}
use Rattle.std.specs.List.{list_any}
use Rattle.toml.specs.Data.{Data, Items, no_items, item, Members, no_members, member, get_member, as_array, as_table}
use Rattle.ttx_header.specs.Ids.{Id, id_at, same_id}
use Rattle.ttx_source.specs.Values.{Fault, wrong_kind, duplicate, out_of_range}
use Rattle.ttx_source.specs.Keys.{lines, serial, designation, initial, network, halves, mjd, utc, text, often, option, flag_at, head, row_keys, is_row_key, row_of, count, link_of, crc}
use Rattle.ttx_source.specs.KeyFaults.{key_name}
use Rattle.ttx_source.specs.Promises.{promise_of}
use Rattle.ttx_source.specs.Services.{page_tables}
use Rattle.ttx_source.specs.declared.keys.Key.{Key}
use Rattle.ttx_source.specs.declared.keys.Key.TheVariants as key
use Rattle.ttx_check.specs.Parts.{Part, at_key, at_row, at_link, number_of, sub_of}

pub record Mistake : Type 0 where
  pub page : ℕ
  pub part : Part
  pub fault : Fault

abbrev pub mistake : ℕ → Part → Fault → Mistake
mistake page part fault = record { page = page; part = part; fault = fault }

abbrev pub fault_in : {A : Type 0} → Result A Fault → Option Fault
fault_in (Ok a) = None
fault_in (Err fault) = Some fault

abbrev pub at : ℕ → Part → Option Fault → List Mistake
at page part None = []
at page part (Some fault) = mistake page part fault ∷ []

-- the value at a key of `info`, or of a page; the other keys of a page have parts
abbrev pub key_fault : Key → Members → Option Fault
key_fault key.Lines table = fault_in (lines table)
key_fault key.Serial table = fault_in (serial table)
key_fault key.Designation table = fault_in (designation table)
key_fault key.Initial table = fault_in (initial table)
key_fault key.Network table = fault_in (network table)
key_fault key.Halves table = fault_in (halves table)
key_fault key.Mjd table = fault_in (mjd table)
key_fault key.Utc table = fault_in (utc table)
key_fault key.Text table = fault_in (text table)
key_fault key.Number table = fault_in (number_of table)
key_fault key.Sub table = fault_in (sub_of table)
key_fault key.Often table = fault_in (often table)
key_fault key.Option table = fault_in (option table)
key_fault key.Newsflash table = fault_in (flag_at (codes "newsflash") table)
key_fault key.Subtitle table = fault_in (flag_at (codes "subtitle") table)
key_fault key.Suppress table = fault_in (flag_at (codes "suppress") table)
key_fault key.Update table = fault_in (flag_at (codes "update") table)
key_fault key.Interrupted table = fault_in (flag_at (codes "interrupted") table)
key_fault key.Inhibit table = fault_in (flag_at (codes "inhibit") table)
key_fault key.Head table = fault_in (head table)
key_fault key.Row24 table = fault_in (flag_at (codes "row24") table)
key_fault key.Crc table = fault_in (crc table)
key_fault key.Within table = fault_in (promise_of (codes "within") 0 table)
key_fault key.Stays table = fault_in (promise_of (codes "stays") 0 table)
key_fault key.Page table = None
key_fault key.Info table = None
key_fault key.Rows table = None
key_fault key.Links table = None

abbrev pub key_mistakes : ℕ → Members → List Key → List Mistake
key_mistakes page table [] = []
key_mistakes page table (key ∷ keys) = at page (at_key (key_name key)) (key_fault key table) ++ key_mistakes page table keys

unfoldable pub service_keys : List Key
service_keys = key.Lines ∷ key.Serial ∷ []

unfoldable pub info_keys : List Key
info_keys = key.Designation ∷ key.Initial ∷ key.Network ∷ key.Halves ∷ key.Mjd ∷ key.Utc ∷ key.Text ∷ []

unfoldable pub id_keys : List Key
id_keys = key.Number ∷ key.Sub ∷ []

unfoldable pub head_keys : List Key
head_keys =
    key.Often ∷ key.Option ∷ key.Newsflash ∷ key.Subtitle ∷ key.Suppress ∷ key.Update ∷ key.Interrupted ∷ key.Inhibit ∷ key.Head ∷ []

unfoldable pub link_keys : List Key
link_keys = key.Row24 ∷ key.Crc ∷ key.Within ∷ key.Stays ∷ []

-- the keys of a table of rows that are no numbers of rows
abbrev pub wrong_keys : ℕ → Members → List Mistake
wrong_keys page no_members = []
wrong_keys page (member key value rows) =
    (if is_row_key key then [] else mistake page (at_row key) (out_of_range (codes "rows")) ∷ []) ++ wrong_keys page rows

abbrev pub text_mistakes : ℕ → Members → List (List ℕ) → List Mistake
text_mistakes page rows [] = []
text_mistakes page rows (key ∷ keys) = at page (at_row key) (fault_in (row_of (get_member key rows))) ++ text_mistakes page rows keys

abbrev pub table_mistakes : ℕ → Option Members → List Mistake
table_mistakes page None = mistake page (at_key (codes "rows")) (wrong_kind (codes "rows")) ∷ []
table_mistakes page (Some rows) = wrong_keys page rows ++ text_mistakes page rows row_keys

abbrev pub row_mistakes : ℕ → Option Data → List Mistake
row_mistakes page None = []
row_mistakes page (Some value) = table_mistakes page (as_table value)

-- the links from this number on
abbrev pub target_mistakes : ℕ → ℕ → Items → List Mistake
target_mistakes page number no_items = []
target_mistakes page number (item value values) =
    at page (at_link number) (fault_in (link_of value)) ++ target_mistakes page (number + 1) values

-- at most six links
abbrev pub array_mistakes : ℕ → Option Items → List Mistake
array_mistakes page None = mistake page (at_key (codes "links")) (wrong_kind (codes "links")) ∷ []
array_mistakes page (Some values) =
    if nat_lt 6 (count values) then mistake page (at_key (codes "links")) (out_of_range (codes "links")) ∷ []
    else target_mistakes page 1 values

abbrev pub link_mistakes : ℕ → Option Data → List Mistake
link_mistakes page None = []
link_mistakes page (Some value) = array_mistakes page (as_array value)

-- the id of a page, if its number and its subcode are read
abbrev pub id_from : Result (ℕ × ℕ) Fault → Result ℕ Fault → Option Id
id_from (Err fault) sub = None
id_from (Ok number) (Err fault) = None
id_from (Ok number) (Ok sub) = Some (id_at number.0 number.1 sub)

abbrev pub read_id : Members → Option Id
read_id table = id_from (number_of table) (sub_of table)

abbrev pub is_again : List Id → Option Id → Bool
is_again earlier None = false
is_again earlier (Some id) = list_any (same_id id) earlier

abbrev pub with_id : List Id → Option Id → List Id
with_id earlier None = earlier
with_id earlier (Some id) = earlier ++ id ∷ []

abbrev pub again_mistakes : ℕ → List Id → Option Id → List Mistake
again_mistakes page earlier id = if is_again earlier id then mistake page (at_key (codes "number")) duplicate ∷ [] else []

abbrev pub front_mistakes : ℕ → List Id → Members → List Mistake
front_mistakes page earlier table =
    key_mistakes page table id_keys ++ again_mistakes page earlier (read_id table) ++ key_mistakes page table head_keys

-- those in a page; earlier pages have these ids
unfoldable pub page_mistakes : ℕ → List Id → Members → List Mistake
page_mistakes page earlier table =
    front_mistakes page earlier table ++ row_mistakes page (get_member (codes "rows") table) ++ link_mistakes page (get_member (codes "links") table)
    ++ key_mistakes page table link_keys

abbrev pub mistakes_in : ℕ → List Id → Option Members → List Mistake
mistakes_in page earlier None = []
mistakes_in page earlier (Some table) = page_mistakes page earlier table

abbrev pub id_in : Option Members → Option Id
id_in None = None
id_in (Some table) = read_id table

-- those in the pages from this number on; earlier pages have these ids
abbrev pub pages_mistakes : ℕ → List Id → Items → List Mistake
pages_mistakes page earlier no_items = []
pages_mistakes page earlier (item value values) =
    mistakes_in page earlier (as_table value) ++ pages_mistakes (page + 1) (with_id earlier (id_in (as_table value))) values

-- those in all pages, if `page` is an array of tables
abbrev pub all_pages : Result Items Fault → List Mistake
all_pages (Err fault) = mistake 0 (at_key (codes "page")) fault ∷ []
all_pages (Ok values) = pages_mistakes 1 [] values

abbrev pub info_table : Option Members → List Mistake
info_table None = mistake 0 (at_key (codes "info")) (wrong_kind (codes "info")) ∷ []
info_table (Some table) = key_mistakes 0 table info_keys

abbrev pub info_mistakes : Option Data → List Mistake
info_mistakes None = []
info_mistakes (Some value) = info_table (as_table value)

-- those of a text with this table
unfoldable pub mistakes : Members → List Mistake
mistakes table = key_mistakes 0 table service_keys ++ info_mistakes (get_member (codes "info") table) ++ all_pages (page_tables table)
