-- What `pages` reports on the slots of a cycle.
--
--   times                   how many packets of a part a page has
--   header_line             the line of a page, with the control bits and characters of one of its headers
--   listed_lines            the lines of all pages that have a header
--   is_info, is_other_packet, is_empty_slot, is_unreadable, is_corrected    tests of slots
--   rest_line               the last line, for what belongs to no page
--   pages_text              the whole text
use Rattle.std.specs.Prelude.{ℕ, Bool, true, false, not, ◌&&◌, ◌==◌, List, [], ◌∷◌, ◌++◌, codes, count_by, if◌then◌else◌}
use Rattle.std.specs.Fmt.{decimal}
use Rattle.std.specs.List.{flat_map}
use Rattle.ttx_header.specs.Headers.{header_fields_of, is_header}
use Rattle.ttx_packet.specs.Slots.{Kind, kind_of, is_clean, IsEmpty, IsUnreadable, IsInfo, IsOther}
use Rattle.ttx_tallies.specs.Tallies.{times_among}
use Rattle.ttx_pages.specs.Keys.{page_key, page_headers, keys_sent}
use Rattle.ttx_pages.specs.Lines.{listed_line}
use Rattle.ttx_pages.specs.declared.keys.Part.{Part}
use Rattle.ttx_pages.specs.declared.keys.Part.TheVariants.{Head, Row, Links}

-- how many packets of a part the page has
abbrev pub times : Part → List (List ℕ) → ℕ → ℕ
times part slots key = times_among (keys_sent part slots) key

-- the line of the page of a header; nothing if the slot is not a header
unfoldable pub header_line : List (List ℕ) → List ℕ → List ℕ
header_line slots slot =
    let h = header_fields_of slot in
    let key = page_key h.id in
    if is_header slot then listed_line h.id (times Head slots key) (times Row slots key) (times Links slots key) h.control h.text else []

-- a line for each page that has a header, by rising page numbers
abbrev pub listed_lines : List (List ℕ) → List ℕ
listed_lines slots = flat_map (header_line slots) (page_headers slots)

-- tests of kinds
abbrev pub info_kind : Kind → Bool
info_kind IsInfo = true
info_kind kind = false

abbrev pub other_kind : Kind → Bool
other_kind (IsOther mag number) = true
other_kind kind = false

abbrev pub empty_kind : Kind → Bool
empty_kind IsEmpty = true
empty_kind kind = false

abbrev pub unreadable_kind : Kind → Bool
unreadable_kind IsUnreadable = true
unreadable_kind kind = false

-- tests of slots
abbrev pub is_info : List ℕ → Bool
is_info slot = info_kind (kind_of slot)

abbrev pub is_other_packet : List ℕ → Bool
is_other_packet slot = other_kind (kind_of slot)

abbrev pub is_empty_slot : List ℕ → Bool
is_empty_slot slot = empty_kind (kind_of slot)

abbrev pub is_unreadable : List ℕ → Bool
is_unreadable slot = unreadable_kind (kind_of slot)

-- a packet that can be read but is not clean
abbrev pub is_corrected : List ℕ → Bool
is_corrected slot = not (is_unreadable slot) && not (is_clean slot)

-- rows and packets X/27/0 of magazines without a header; then packets 8/30 and others; empty and unreadable slots; packets that are not clean
unfoldable pub strays_text : List (List ℕ) → List ℕ
strays_text slots = codes "rest rows " ++ decimal (times Row slots 0) ++ codes " links " ++ decimal (times Links slots 0)

unfoldable pub others_text : List (List ℕ) → List ℕ
others_text slots = codes " info " ++ decimal (count_by is_info slots) ++ codes " other " ++ decimal (count_by is_other_packet slots)

unfoldable pub unread_text : List (List ℕ) → List ℕ
unread_text slots = codes " empty " ++ decimal (count_by is_empty_slot slots) ++ codes " unreadable " ++ decimal (count_by is_unreadable slots)

unfoldable pub corrected_text : List (List ℕ) → List ℕ
corrected_text slots = codes " corrected " ++ decimal (count_by is_corrected slots)

abbrev pub slots_text : List (List ℕ) → List ℕ
slots_text slots = unread_text slots ++ corrected_text slots ++ 10 ∷ []

abbrev pub rest_line : List (List ℕ) → List ℕ
rest_line slots = strays_text slots ++ others_text slots ++ slots_text slots

-- a line for each page, and the line for the rest
abbrev pub pages_text : List (List ℕ) → List ℕ
pages_text slots = listed_lines slots ++ rest_line slots
