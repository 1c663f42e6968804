-- Errors and warnings about a service text (profile).
--
--   Note                    an error or a warning: the path of the value that it concerns, the character of the text there, and the words
--   note_path, note_name    the path and the name of what is refused; if its key is missing, those of its table
--   part_text, most_of      the text that is refused, and how many characters fit there
--   why_page, why_subcode   the rule that a page number or a subcode breaks
--   detail, sign            the detail about a fault; the character that is refused
--   error_note, error_notes the errors of some mistakes
use Rattle.std.specs.Prelude.{ℕ, ◌-◌, Bool, true, not, ◌&&◌, ◌||◌, ◌==◌, nat_le, nat_lt, if◌then◌else◌, List, [], ◌++◌, codes, length, map, find, position, slice_index, encode_utf8, Option, Some, None}
use Rattle.std.specs.Fmt.{decimal}
use Rattle.std.specs.List.{list_any}
use Rattle.std.specs.Str.{bytes_eq, chars}
use Rattle.toml.specs.Data.{Members, get_member, get_item}
use Rattle.ttx_places.specs.Paths.{below, page_path}
use Rattle.ttx_source.specs.Values.{Fault, not_toml, missing, wrong_kind, wrong_page_number, wrong_subcode, duplicate, too_long, wrong_character}
use Rattle.ttx_source.specs.Values.{wrong_often, out_of_range, no_memory}
use Rattle.ttx_check.specs.Parts.{Part, whole, at_key, at_row, at_link, part_path, part_name, text_in, table_in, items_in}
use Rattle.ttx_check.specs.Refusals.{fault_words}
use Rattle.ttx_check.specs.Spots.{page_table, key_table, is_missing, service_name, page_id, text_or, text_at, count_text}
use Rattle.ttx_check.specs.UnknownKeys.{home_of, text_or_else}
use Rattle.ttx_mistakes.specs.Mistakes.{Mistake}
use Rattle.ttx_mistakes.specs.Takes.{takes}

pub record Note : Type 0 where
  pub error : Bool
  pub path : List ℕ
  pub sign : Option ℕ
  pub words : List ℕ

abbrev pub note : Bool → List ℕ → Option ℕ → List ℕ → Note
note error path sign words = record { error = error; path = path; sign = sign; words = words }

-- outside pages each part is a key
abbrev pub key_of : Part → List ℕ
key_of whole = []
key_of (at_key key) = key
key_of (at_row key) = key
key_of (at_link number) = []

abbrev pub outside_path : List ℕ → Fault → List ℕ
outside_path key fault = if is_missing fault then key_table key else below (key_table key) key

abbrev pub inside_path : ℕ → Part → Fault → List ℕ
inside_path page part fault = if is_missing fault then page_path page else part_path (page_path page) part

unfoldable pub note_path : ℕ → Part → Fault → List ℕ
note_path page part fault = if page == 0 then outside_path (key_of part) fault else inside_path page part fault

abbrev pub id_text_in : Option Members → ℕ → List ℕ
id_text_in None page = decimal page
id_text_in (Some members) page = page_id members page

abbrev pub inside_name : Members → ℕ → Part → Fault → List ℕ
inside_name table page part fault =
    codes "page " ++ id_text_in (page_table table page) page ++ (if is_missing fault then [] else part_name part)

unfoldable pub note_name : Members → ℕ → Part → Fault → List ℕ
note_name table page part fault = if page == 0 then service_name (key_of part) else inside_name table page part fault

-- the text at a part of a page
abbrev pub text_of : Part → Members → List ℕ
text_of whole page = []
text_of (at_key key) page = text_or [] (text_in (get_member key page))
text_of (at_row key) page = text_at key (table_in (get_member (codes "rows") page))
text_of (at_link number) page = text_or [] (text_in (get_item (number - 1) (items_in (get_member (codes "links") page))))

abbrev pub text_of_page : Part → Option Members → List ℕ
text_of_page part None = []
text_of_page part (Some page) = text_of part page

-- the text that is refused; outside pages it stands in `info`
unfoldable pub part_text : Members → ℕ → Part → List ℕ
part_text table page part =
    if page == 0 then text_at (key_of part) (table_in (get_member (codes "info") table)) else text_of_page part (page_table table page)

-- the characters of a row, of `text` in `info`, and of `head`
abbrev pub most_of : ℕ → Part → ℕ
most_of page whole = 24
most_of page (at_key key) = if page == 0 then 20 else 24
most_of page (at_row key) = 40
most_of page (at_link number) = 24

-- a to f
abbrev pub is_small_digit : ℕ → Bool
is_small_digit c = nat_le 97 c && nat_lt c 103

abbrev pub is_page_length : ℕ → Bool
is_page_length size = (size == 3) || (size == 8)

abbrev pub is_magazine : ℕ → Bool
is_magazine c = nat_le 49 c && nat_le c 56

-- the first rule that a page number, or a link, breaks
unfoldable pub why_page : List ℕ → List ℕ
why_page text =
    if list_any is_small_digit text then codes ": hexadecimal digits are capitals"
    else if not (is_page_length (length text)) then codes ": a page is three digits, as 100; in a link it may have a subcode, as 100/0001"
    else if not (is_magazine (slice_index text 0)) then codes ": the first digit, the magazine, is 1 to 8"
    else if (slice_index text 1 == 70) && (slice_index text 2 == 70) then codes ": page FF has no text, time-filling headers have this number"
    else codes ": after the magazine come two digits, 0 to 9 or A to F"

abbrev pub is_subcode_length : ℕ → Bool
is_subcode_length size = (size == 4) || (size == 8)

-- the first rule that a subcode, of a page or in a link, breaks (9.3.1.2)
unfoldable pub why_subcode : List ℕ → List ℕ
why_subcode text =
    if list_any is_small_digit text then codes ": hexadecimal digits are capitals"
    else if not (is_subcode_length (length text)) then codes ": a subcode is four digits, as 0001"
    else if bytes_eq text (codes "3F7F") then codes ": 3F7F means any subcode, in a link"
    else codes ": its digits are at most 3, F, 7 and F"

abbrev pub is_wide : ℕ → Bool
is_wide c = nat_le 128 c

abbrev pub sign_text : Option ℕ → List ℕ
sign_text None = []
sign_text (Some c) = codes ": " ++ encode_utf8 c

abbrev pub takes_text : List ℕ → List ℕ
takes_text key = codes ": it takes " ++ takes key

-- where the key of a row stands that is none
abbrev pub range_detail : List ℕ → Part → List ℕ
range_detail key (at_row name) = text_or_else (home_of name) (takes_text key)
range_detail key whole = takes_text key
range_detail key (at_key name) = takes_text key
range_detail key (at_link number) = takes_text key

abbrev pub kind_detail : List ℕ → List ℕ
kind_detail key = takes_text key ++ (if bytes_eq key (codes "page") then codes "; each page begins with [[page]]" else [])

abbrev pub detail : Fault → ℕ → Part → List ℕ → List ℕ
detail (missing key) page part text = takes_text key
detail (wrong_kind key) page part text = kind_detail key
detail (out_of_range key) page part text = range_detail key part
detail wrong_page_number page part text = why_page text
detail wrong_subcode page part text = why_subcode text
detail too_long page part text = count_text (most_of page part) text
detail wrong_character page part text = sign_text (find is_wide (chars text))
detail duplicate page part text = []
detail wrong_often page part text = []
detail not_toml page part text = []
detail no_memory page part text = []

-- the character that is refused: the first that can't be sent, or the first that doesn't fit
abbrev pub sign : Fault → ℕ → Part → List ℕ → Option ℕ
sign too_long page part text = Some (most_of page part)
sign wrong_character page part text = position is_wide (chars text)
sign (missing key) page part text = None
sign (wrong_kind key) page part text = None
sign (out_of_range key) page part text = None
sign wrong_page_number page part text = None
sign wrong_subcode page part text = None
sign duplicate page part text = None
sign wrong_often page part text = None
sign not_toml page part text = None
sign no_memory page part text = None

abbrev pub error_words : Members → ℕ → Part → Fault → List ℕ → List ℕ
error_words table page part fault text = note_name table page part fault ++ codes ": " ++ fault_words fault ++ detail fault page part text

unfoldable pub error_note : Members → Mistake → Note
error_note table m =
    note true (note_path m.page m.part m.fault) (sign m.fault m.page m.part (part_text table m.page m.part))
    (error_words table m.page m.part m.fault (part_text table m.page m.part))

abbrev pub error_notes : Members → List Mistake → List Note
error_notes table found = map (error_note table) found
