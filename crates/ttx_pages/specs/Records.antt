-- What `pages --json` writes: the lines of `pages` as JSON objects (profile).
--
--   control_members         whether each control bit is set, C4 first
--   counted_members, listed_members a page, with its counts and the control bits and characters of one of its headers
--   header_record, page_records     the object of the page of a header; those of all pages
--   rest_members            what belongs to no page
--   pages_records           all objects
use Rattle.std.specs.Prelude.{ℕ, not, ◌==◌, List, [], ◌∷◌, ◌++◌, codes, count_by, if◌then◌else◌}
use Rattle.std.specs.Int.RustNames.{bit_and}
use Rattle.std.specs.List.{flat_map}
use Rattle.ttx_digits.specs.PageIds.{id_text}
use Rattle.ttx_header.specs.Control.{control_table}
use Rattle.ttx_header.specs.Headers.{header_fields_of, is_header}
use Rattle.ttx_header.specs.Ids.{Id}
use Rattle.ttx_json.specs.Objects.{Member, word, count, flag, object_line}
use Rattle.ttx_pages.specs.Keys.{page_key, page_headers}
use Rattle.ttx_pages.specs.Lines.{quoted_text}
use Rattle.ttx_pages.specs.Listing.{times, is_info, is_other_packet, is_empty_slot, is_unreadable, is_corrected}
use Rattle.ttx_pages.specs.declared.keys.Part.TheVariants.{Head, Row, Links}

-- for the rows of a table of names and bits
abbrev pub bit_members : ℕ → List (List ℕ × ℕ) → List Member
bit_members control [] = []
bit_members control (row ∷ rest) = flag row.0 (bit_and control row.1 == row.1) ∷ bit_members control rest

unfoldable pub control_members : ℕ → List Member
control_members control = bit_members control control_table

-- with the texts of its id and of its characters
abbrev pub counted_members : List ℕ → ℕ → ℕ → ℕ → List Member → List ℕ → List Member
counted_members page times rows links control head =
    word (codes "page") page ∷ count (codes "sent") times ∷ count (codes "rows") rows ∷ flag (codes "links") (not (links == 0))
    ∷ (control ++ word (codes "head") head ∷ [])

abbrev pub listed_members : Id → ℕ → ℕ → ℕ → ℕ → List ℕ → List Member
listed_members id times rows links control text = counted_members (id_text id) times rows links (control_members control) (quoted_text text)

-- nothing if the slot is not a header
unfoldable pub header_record : List (List ℕ) → List ℕ → List ℕ
header_record slots slot =
    let h = header_fields_of slot in
    let key = page_key h.id in
    if is_header slot then object_line (listed_members h.id (times Head slots key) (times Row slots key) (times Links slots key) h.control h.text)
    else []

-- for each page that has a header, by rising page numbers
abbrev pub page_records : List (List ℕ) → List ℕ
page_records slots = flat_map (header_record slots) (page_headers slots)

unfoldable pub rest_members : List (List ℕ) → List Member
rest_members slots =
    word (codes "page") (codes "rest") ∷ count (codes "rows") (times Row slots 0) ∷ count (codes "links") (times Links slots 0)
    ∷ count (codes "info") (count_by is_info slots) ∷ count (codes "other") (count_by is_other_packet slots)
    ∷ count (codes "empty") (count_by is_empty_slot slots) ∷ count (codes "unreadable") (count_by is_unreadable slots)
    ∷ count (codes "corrected") (count_by is_corrected slots) ∷ []

abbrev pub pages_records : List (List ℕ) → List ℕ
pages_records slots = page_records slots ++ object_line (rest_members slots)
