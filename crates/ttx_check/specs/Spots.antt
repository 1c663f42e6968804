-- Which value of a service text a fault concerns: its path in the text, its name for people, and the detail in the line (profile).
--
--   page_table              the table of a page, counted from 1; None if the fault is not in a page
--   service_key, service_path, service_name    the key outside pages that a fault concerns
--   spot_path, spot_name    the path and the name of the value that a fault concerns; if its key is missing, those of its table
--   count_words, count_text, long_text    how many characters a text has that is too long, and how many fit
--   taken_text, IsDetail    what a key takes; the detail about the value
use Rattle.std.specs.Prelude.{◌≡◌, ℕ, ◌-◌, Bool, true, false, ◌||◌, ◌==◌, List, [], ◌++◌, codes, length, Option, Some, None, is_err, if◌then◌else◌}
use Rattle.std.specs.Fmt.{decimal}
use Rattle.std.specs.Str.{chars}
use Rattle.toml.specs.Data.{Members, get_member, get_item}
use Rattle.ttx_places.specs.Paths.{below, page_path}
use Rattle.ttx_source.specs.Accepted.{accepted_at}
use Rattle.ttx_source.specs.Keys.{zeros}
use Rattle.ttx_source.specs.Values.{Fault, not_toml, missing, wrong_kind, wrong_page_number, wrong_subcode, duplicate, too_long, wrong_character}
use Rattle.ttx_source.specs.Values.{wrong_often, out_of_range, no_memory}
use Rattle.ttx_check.specs.Parts.{Part, at_row, part_path, part_name, part_of, text_part, number_of, sub_of}
use Rattle.ttx_check.specs.Parts.{text_in, table_in, items_in}
use Rattle.ttx_check.specs.UnknownKeys.{is_one_of, service_keys}

abbrev pub page_table : Members → ℕ → Option Members
page_table table page = if page == 0 then None else table_in (get_item (page - 1) (items_in (get_member (codes "page") table)))

-- the key outside pages: a refused link there is that of `initial`, a refused text that of `text`
abbrev pub service_key : Fault → List ℕ
service_key (missing key) = key
service_key (wrong_kind key) = key
service_key (out_of_range key) = key
service_key wrong_page_number = codes "initial"
service_key wrong_subcode = codes "initial"
service_key too_long = codes "text"
service_key wrong_character = codes "text"
service_key wrong_often = codes "page"
service_key duplicate = codes "page"
service_key not_toml = []
service_key no_memory = []

-- the path of the table that a key outside pages belongs to
abbrev pub key_table : List ℕ → List ℕ
key_table key = if is_one_of service_keys key then [] else codes "/info"

abbrev pub is_missing : Fault → Bool
is_missing (missing key) = true
is_missing _ = false

abbrev pub service_path : Fault → List ℕ
service_path fault = if is_missing fault then key_table (service_key fault) else below (key_table (service_key fault)) (service_key fault)

abbrev pub service_name : List ℕ → List ℕ
service_name key = if is_one_of service_keys key then key else codes "info " ++ key

abbrev pub text_or : List ℕ → Option (List ℕ) → List ℕ
text_or other None = other
text_or other (Some text) = text

-- the id of a page; if it has none, its number in the text
abbrev pub page_id : Members → ℕ → List ℕ
page_id members page =
    if is_err (number_of members) || is_err (sub_of members) then decimal page
    else text_or [] (text_in (get_member (codes "number") members)) ++ codes "/" ++ text_or zeros (text_in (get_member (codes "sub") members))

abbrev pub path_in : Fault → ℕ → Option Members → List ℕ
path_in fault page None = service_path fault
path_in fault page (Some members) = part_path (page_path page) (part_of fault members)

abbrev pub spot_path : Members → Fault → ℕ → List ℕ
spot_path table fault page = path_in fault page (page_table table page)

abbrev pub name_in : Fault → ℕ → Option Members → List ℕ
name_in fault page None = service_name (service_key fault)
name_in fault page (Some members) = codes "page " ++ page_id members page ++ part_name (part_of fault members)

abbrev pub spot_name : Members → Fault → ℕ → List ℕ
spot_name table fault page = name_in fault page (page_table table page)

abbrev pub count_words : ℕ → ℕ → List ℕ
count_words most count = codes ": " ++ decimal count ++ codes " characters, " ++ decimal most ++ codes " fit"

abbrev pub count_text : ℕ → List ℕ → List ℕ
count_text most text = count_words most (length (chars text))

-- the text at a key of an inner table
abbrev pub text_at : List ℕ → Option Members → List ℕ
text_at key None = []
text_at key (Some table) = text_or [] (text_in (get_member key table))

-- a row has 40 characters, and `head` has 24
abbrev pub part_count : Members → Part → List ℕ
part_count page (at_row key) = count_text 40 (text_at key (table_in (get_member (codes "rows") page)))
part_count page part = count_text 24 (text_or [] (text_in (get_member (codes "head") page)))

-- the text of `info` has 20
abbrev pub long_text : Members → Option Members → List ℕ
long_text table None = count_text 20 (text_at (codes "text") (table_in (get_member (codes "info") table)))
long_text table (Some page) = part_count page (text_part page)

abbrev pub taken_text : List ℕ → List ℕ
taken_text key = codes ": it takes " ++ accepted_at key

abbrev pub detail_in : Fault → Members → Option Members → List ℕ
detail_in too_long table page = long_text table page
detail_in (missing key) table page = taken_text key
detail_in (wrong_kind key) table page = taken_text key
detail_in (out_of_range key) table page = taken_text key
detail_in fault table page = []

abbrev pub IsDetail : Members → Fault → ℕ → List ℕ → Type 0
IsDetail table fault page detail = detail ≡ detail_in fault table (page_table table page)
